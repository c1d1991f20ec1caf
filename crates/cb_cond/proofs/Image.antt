-- What the code reads is what is read over trees, with the meaning of each tree in its place.
use Rattle.std.proofs.Common.{◌≡◌, ℕ, Bool, true, false, cond, List, [], ◌∷◌, map, Option, Some, None, option_map, refl, ap, sym, ◌∙◌, arith, eqb}
use Rattle.cb_cond.specs.declared.symbol.Operator.TheVariants.{Add}
use Rattle.cb_cond.specs.declared.symbol.Prefix.{Prefix}
use Rattle.cb_cond.specs.declared.symbol.Prefix.TheVariants.{Not}
use Rattle.cb_cond.specs.declared.symbol.Symbol.{Symbol}
use Rattle.cb_cond.specs.declared.symbol.Symbol.TheVariants.{Number, Between, Exclamation, Tilde, OpenParenthesis, CloseParenthesis, Question, Colon, WideInteger, Stray}
use Rattle.cb_cond.specs.declared.meaning.Value.{Value}
use Rattle.cb_cond.specs.declared.meaning.Value.TheVariants.{Bits, ZeroDivisor, Shift}
use Rattle.cb_cond.specs.declared.prefixes.Prefixes.{Prefixes}
use Rattle.cb_cond.specs.declared.prefixes.Prefixes.TheVariants.{Linear, Test}
use Rattle.cb_cond.specs.declared.frames.Frame.{Frame}
use Rattle.cb_cond.specs.declared.frames.Frame.TheVariants as code
use Rattle.cb_cond.specs.declared.frames.Held.{Held}
use Rattle.cb_cond.specs.declared.frames.Held.TheVariants as held
use Rattle.cb_cond.specs.Grammar.{Expression, Leaf, Parens, Unary, Binary, Choose, level}
use Rattle.cb_cond.specs.Values.{meaning, unary, binary, choose, chosen_value, wrapped, after_left, prefix_is_unsigned}
use Rattle.cb_cond.specs.inner.Prefixes.{extended, applied, linear}
use Rattle.cb_cond.specs.inner.Frames as frames
use Rattle.cb_cond.specs.inner.Frames.{Read, prefix_of, prefixed, opened}
use Rattle.cb_cond.proofs.Reading.{Place, Left, Inside, Asked, Answered, Reading, Awaits, Has, Failed, unaries, ends, joined, Closed, collapse, awaiting, answered, closed, holding, step, whole, ended}
use Rattle.cb_cond.proofs.Runs.{FitsValue, FitsRun, FitsRun-extended, applied-bits}

-- a run of prefix operators, of which the last stands first
unfoldable pub composed : List Prefix → Prefixes
composed [] = Linear false 0
composed (p ∷ ps) = extended (composed ps) p

FitsRun-composed : (ps : List Prefix) → FitsRun (composed ps)
unfolding composed FitsRun
FitsRun-composed [] = tt
FitsRun-composed (p ∷ ps) = FitsRun-extended (composed ps) p (FitsRun-composed ps)

FitsValue-wrapped : (v : Value) → FitsValue (wrapped v)
unfolding FitsValue wrapped
FitsValue-wrapped (Bits n) = omega arith
FitsValue-wrapped ZeroDivisor = tt
FitsValue-wrapped Shift = tt

FitsValue-if : (v : Bool) (a b : Value) → FitsValue a → FitsValue b → FitsValue (cond v a b)
FitsValue-if true a b h k = h
FitsValue-if false a b h k = k

FitsValue-chosen : (a b c : Value) → FitsValue b → FitsValue c → FitsValue (chosen_value a b c)
unfolding chosen_value after_left
FitsValue-chosen (Bits n) b c h k = FitsValue-if (eqb n 0) c b k h
FitsValue-chosen ZeroDivisor b c h k = unfold FitsValue in tt
FitsValue-chosen Shift b c h k = unfold FitsValue in tt

FitsValue-meaning : (t : Expression) → FitsValue (meaning t).value
unfolding meaning unary binary choose
FitsValue-meaning (Leaf n u) = FitsValue-wrapped (Bits n)
FitsValue-meaning (Parens a) = FitsValue-meaning a
FitsValue-meaning (Unary p a) = FitsValue-wrapped _
FitsValue-meaning (Binary o a b) = FitsValue-wrapped _
FitsValue-meaning (Choose a b c) = FitsValue-chosen (meaning a).value (meaning b).value (meaning c).value (FitsValue-meaning b) (FitsValue-meaning c)

applied-zero : (r : Prefixes) (p : Prefix) (u : Bool)
    → applied (extended r p) (record { unsigned = u; value = ZeroDivisor }) ≡ applied r (unary p (record { unsigned = u; value = ZeroDivisor }))
unfolding applied extended unary prefix_is_unsigned after_left wrapped
applied-zero (Linear n c) Not u = refl
applied-zero (Linear n c) _ u = refl
applied-zero (Test o a b) Not u = refl
applied-zero (Test o a b) _ u = refl

applied-shift : (r : Prefixes) (p : Prefix) (u : Bool)
    → applied (extended r p) (record { unsigned = u; value = Shift }) ≡ applied r (unary p (record { unsigned = u; value = Shift }))
unfolding applied extended unary prefix_is_unsigned after_left wrapped
applied-shift (Linear n c) Not u = refl
applied-shift (Linear n c) _ u = refl
applied-shift (Test o a b) Not u = refl
applied-shift (Test o a b) _ u = refl

applied-value : (r : Prefixes) (p : Prefix) (u : Bool) (v : Value) → FitsRun r → FitsValue v
    → applied (extended r p) (record { unsigned = u; value = v }) ≡ applied r (unary p (record { unsigned = u; value = v }))
unfolding FitsValue
applied-value r p u (Bits n) h k = applied-bits r p u n h k
applied-value r p u ZeroDivisor h k = applied-zero r p u
applied-value r p u Shift h k = applied-shift r p u

applied-none : (u : Bool) (v : Value) → FitsValue v → applied (Linear false 0) (record { unsigned = u; value = v }) ≡ record { unsigned = u; value = v }
unfolding FitsValue applied linear after_left
applied-none u (Bits n) h = ap (λ (w : ℕ). record { unsigned = u; value = Bits w }) (omega arith)
applied-none u ZeroDivisor h = refl
applied-none u Shift h = refl

-- operators before an operand, one after the other or as one function
pub meaning-unaries : (ps : List Prefix) (t : Expression) → meaning (unaries ps t) ≡ applied (composed ps) (meaning t)
unfolding unaries composed meaning
meaning-unaries [] t = sym (applied-none (meaning t).unsigned (meaning t).value (FitsValue-meaning t))
meaning-unaries (p ∷ ps) t =
    meaning-unaries ps (Unary p t)
    ∙ sym (applied-value (composed ps) p (meaning t).unsigned (meaning t).value (FitsRun-composed ps) (FitsValue-meaning t))

-- what the code keeps of a place
unfoldable pub frame_of : Place → Frame
frame_of (Left o a) = code.Left o (meaning a)
frame_of (Inside ps) = code.Inside (composed ps)
frame_of (Asked a) = code.Asked (meaning a)
frame_of (Answered a b) = code.Answered (meaning a) (meaning b)

-- what the code keeps of what was read
unfoldable pub image : Reading → Option Read
image (Awaits fs ps) = Some (record { frames = map frame_of fs; held = held.Awaits (composed ps) })
image (Has fs a) = Some (record { frames = map frame_of fs; held = held.Has (meaning a) })
image Failed = None

-- what the code keeps of places and a tree
unfoldable pub image_closed : Closed → frames.Closed
image_closed r = record { frames = map frame_of r.places; operand = meaning r.tree }

ends-frame : (k : ℕ) (f : Place) → frames.ends k (frame_of f) ≡ ends k f
unfolding frames.ends frame_of ends
ends-frame k (Left o a) = refl
ends-frame k (Inside ps) = refl
ends-frame k (Asked a) = refl
ends-frame k (Answered a b) = refl

joined-frame : (f : Place) (a : Expression) → frames.joined (frame_of f) (meaning a) ≡ meaning (joined f a)
unfolding frames.joined frame_of joined meaning
joined-frame (Left o b) a = refl
joined-frame (Inside ps) a = refl
joined-frame (Asked b) a = refl
joined-frame (Answered b c) a = refl

closed-if : (v : Bool) (r s : Closed) (x : frames.Closed) → x ≡ image_closed r → cond v x (image_closed s) ≡ image_closed (cond v r s)
closed-if true r s x e = e
closed-if false r s x e = refl

closed-image : (k : ℕ) (fs : List Place) (a : Expression) → frames.closed k (map frame_of fs) (meaning a) ≡ image_closed (collapse k fs a)
unfolding frames.closed collapse image_closed
closed-image k [] a = refl
closed-image k (f ∷ fs) a =
    ap (λ v. cond v (frames.closed k (map frame_of fs) (frames.joined (frame_of f) (meaning a))) (image_closed (record { places = f ∷ fs; tree = a }))) (ends-frame k f)
    ∙ closed-if (ends k f) (collapse k fs (joined f a)) (record { places = f ∷ fs; tree = a }) _
    (ap (frames.closed k (map frame_of fs)) (joined-frame f a) ∙ closed-image k fs (joined f a))

awaiting-image : (fs : List Place) (ps : List Prefix) (s : Symbol) → image (awaiting fs ps s) ≡ frames.awaiting (map frame_of fs) (composed ps) s
unfolding image awaiting frames.awaiting prefixed prefix_of opened composed frame_of meaning wrapped
awaiting-image fs ps (Number n u) = ap (λ m. Some (record { frames = map frame_of fs; held = held.Has m })) (meaning-unaries ps (Leaf n u))
awaiting-image fs ps (Between Add) = refl
awaiting-image fs ps _ = refl

answered-image : (fs : List Place) (b : Expression) → image (answered fs b) ≡ frames.answered (map frame_of fs) (meaning b)
unfolding image answered frames.answered opened frame_of composed
answered-image [] b = refl
answered-image (Left o a ∷ fs) b = refl
answered-image (Inside ps ∷ fs) b = refl
answered-image (Asked a ∷ fs) b = refl
answered-image (Answered a c ∷ fs) b = refl

parenthesized-image : (fs : List Place) (a : Expression) → image (closed fs a) ≡ frames.parenthesized (map frame_of fs) (meaning a)
unfolding image closed frames.parenthesized frame_of meaning
parenthesized-image [] a = refl
parenthesized-image (Left o b ∷ fs) a = refl
parenthesized-image (Inside ps ∷ fs) a = ap (λ m. Some (record { frames = map frame_of fs; held = held.Has m })) (meaning-unaries ps (Parens a))
parenthesized-image (Asked b ∷ fs) a = refl
parenthesized-image (Answered b c ∷ fs) a = refl

holding-image : (fs : List Place) (a : Expression) (s : Symbol) → image (holding fs a s) ≡ frames.holding (map frame_of fs) (meaning a) s
unfolding image holding frames.holding opened composed frame_of image_closed
holding-image fs a (Number n u) = refl
holding-image fs a (Between o) = ap (λ (r : frames.Closed). opened (code.Left o r.operand ∷ r.frames)) (sym (closed-image (level o) fs a))
holding-image fs a Exclamation = refl
holding-image fs a Tilde = refl
holding-image fs a OpenParenthesis = refl
holding-image fs a CloseParenthesis =
    parenthesized-image (collapse 0 fs a).places (collapse 0 fs a).tree
    ∙ ap (λ (r : frames.Closed). frames.parenthesized r.frames r.operand) (sym (closed-image 0 fs a))
holding-image fs a Question = ap (λ (r : frames.Closed). opened (code.Asked r.operand ∷ r.frames)) (sym (closed-image 1 fs a))
holding-image fs a Colon =
    answered-image (collapse 0 fs a).places (collapse 0 fs a).tree
    ∙ ap (λ (r : frames.Closed). frames.answered r.frames r.operand) (sym (closed-image 0 fs a))
holding-image fs a WideInteger = refl
holding-image fs a Stray = refl

pub step-image : (fs : List Frame) (h : Held) (r : Reading) (s : Symbol) → image r ≡ Some (record { frames = fs; held = h }) → image (step r s) ≡ frames.step fs h s
unfolding image step frames.step
step-image fs h (Awaits gs ps) s e =
    let same : ◌≡◌ {A = Read} (record { frames = map frame_of gs; held = held.Awaits (composed ps) }) (record { frames = fs; held = h }) = cc in
    awaiting-image gs ps s ∙ ap (λ (r : Read). frames.step r.frames r.held s) same
step-image fs h (Has gs a) s e =
    let same : ◌≡◌ {A = Read} (record { frames = map frame_of gs; held = held.Has (meaning a) }) (record { frames = fs; held = h }) = cc in
    holding-image gs a s ∙ ap (λ (r : Read). frames.step r.frames r.held s) same
step-image fs h Failed s e = cc

alone-image : (fs : List Place) (a : Expression) → frames.alone (map frame_of fs) (meaning a) ≡ option_map meaning (whole fs a)
unfolding frames.alone whole
alone-image [] a = refl
alone-image (f ∷ fs) a = refl

-- the end, over trees and in the code
pub whole-image : (fs : List Frame) (h : Held) (r : Reading) → image r ≡ Some (record { frames = fs; held = h }) → frames.whole_of fs h ≡ option_map meaning (ended r)
unfolding image ended frames.whole_of image_closed
whole-image fs h (Awaits gs ps) e =
    let same : ◌≡◌ {A = Read} (record { frames = map frame_of gs; held = held.Awaits (composed ps) }) (record { frames = fs; held = h }) = cc in
    ap (λ (r : Read). frames.whole_of r.frames r.held) (sym same)
whole-image fs h (Has gs a) e =
    let same : ◌≡◌ {A = Read} (record { frames = map frame_of gs; held = held.Has (meaning a) }) (record { frames = fs; held = h }) = cc in
    ap (λ (r : Read). frames.whole_of r.frames r.held) (sym same)
    ∙ ap (λ (r : frames.Closed). frames.alone r.frames r.operand) (closed-image 0 gs a)
    ∙ alone-image (collapse 0 gs a).places (collapse 0 gs a).tree
whole-image fs h Failed e = cc

-- what cannot be read on is no condition
pub Failed-image : (r : Reading) → image r ≡ None → r ≡ Failed
unfolding image
Failed-image (Awaits fs ps) e = cc
Failed-image (Has fs a) e = cc
Failed-image Failed e = refl
