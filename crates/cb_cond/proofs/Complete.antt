-- Each condition is read as its tree.
use Rattle.std.proofs.Common.{◌≡◌, ℕ, ◌+◌, ◌<◌, ◌≤◌, true, false, List, [], ◌∷◌, ◌++◌, Some, refl, ap, sym, ◌∙◌, append_assoc, append-nil, arith, eqb, leb}
use Rattle.std.proofs.lemmas.Bool.Decides.{nat_tests}
use Rattle.cb_cond.specs.declared.symbol.Operator.{Operator}
use Rattle.cb_cond.specs.declared.symbol.Operator.TheVariants.{Or}
use Rattle.cb_cond.specs.declared.symbol.Prefix.{Prefix}
use Rattle.cb_cond.specs.declared.symbol.Prefix.TheVariants.{Not, Complement, Plus, Minus}
use Rattle.cb_cond.specs.declared.symbol.Symbol.{Symbol}
use Rattle.cb_cond.specs.declared.symbol.Symbol.TheVariants.{Number, Between, Exclamation, Tilde, OpenParenthesis, CloseParenthesis, Question, Colon, WideInteger, Stray}
use Rattle.cb_cond.specs.Grammar.{Expression, Leaf, Parens, Unary, Binary, Choose, level, prefix_symbol, spelling, StandsAt, IsCondition}
use Rattle.cb_cond.proofs.Reading.{Place, Left, Inside, Asked, Answered, Awaits, Has, unaries, ends, joined, Closed, collapse, awaiting, answered, closed, holding, step, run, whole, ended, outcome}

-- how tightly the next symbol binds what stands before it
unfoldable pub pulls : List Symbol → ℕ
pulls [] = 0
pulls (Between o ∷ ss) = level o
pulls (Question ∷ ss) = 1
pulls (_ ∷ ss) = 0

-- what binds as tightly as m ends no place
unfoldable pub Stays : ℕ → List Place → Type 0
Stays m [] = Unit {0}
Stays m (Left o a ∷ fs) = level o < m
Stays m (Inside ps ∷ fs) = Unit {0}
Stays m (Asked a ∷ fs) = Unit {0}
Stays m (Answered a b ∷ fs) = Unit {0}

pub level-below : (o : Operator) → level o < 12
unfolding level
level-below Or = omega arith
level-below _ = omega arith

pub level-above : (o : Operator) → 1 < level o
unfolding level
level-above Or = omega arith
level-above _ = omega arith

pub Stays-always : (fs : List Place) → Stays 12 fs
unfolding Stays
Stays-always [] = tt
Stays-always (Left o a ∷ fs) = level-below o
Stays-always (Inside ps ∷ fs) = tt
Stays-always (Asked a ∷ fs) = tt
Stays-always (Answered a b ∷ fs) = tt

pub Stays-more : (m n : ℕ) (fs : List Place) → m ≤ n → Stays m fs → Stays n fs
unfolding Stays
Stays-more m n [] l h = tt
Stays-more m n (Left o a ∷ fs) l h = omega arith
Stays-more m n (Inside ps ∷ fs) l h = tt
Stays-more m n (Asked a ∷ fs) l h = tt
Stays-more m n (Answered a b ∷ fs) l h = tt

pulls-below : (ss : List Symbol) → pulls ss ≤ 12
unfolding pulls
pulls-below [] = omega arith
pulls-below (Between o ∷ ss) = let h = level-below o in omega arith
pulls-below (Question ∷ ss) = omega arith
pulls-below (_ ∷ ss) = omega arith

leb-from : (m n : ℕ) → m ≤ n → leb m n ≡ true
leb-from m n h = grind (arith, nat_tests)

leb-not : (m n : ℕ) → n < m → leb m n ≡ false
leb-not m n h = grind (arith, nat_tests)

eqb-not : (m : ℕ) → 1 ≤ m → eqb m 0 ≡ false
eqb-not m h = grind (arith, nat_tests)

pub collapse-ends : (k : ℕ) (f : Place) (fs : List Place) (a : Expression) → ends k f ≡ true → collapse k (f ∷ fs) a ≡ collapse k fs (joined f a)
unfolding collapse
collapse-ends k f fs a e = rw e refl

pub collapse-stops : (k : ℕ) (f : Place) (fs : List Place) (a : Expression) → ends k f ≡ false → collapse k (f ∷ fs) a ≡ record { places = f ∷ fs; tree = a }
unfolding collapse
collapse-stops k f fs a e = rw e refl

pub collapse-stays : (m k : ℕ) (fs : List Place) (a : Expression) → Stays m fs → m ≤ k → 1 ≤ k → collapse k fs a ≡ record { places = fs; tree = a }
unfolding Stays collapse ends
collapse-stays m k [] a h l p = refl
collapse-stays m k (Left o b ∷ fs) a h l p = let e = leb-not k (level o) (omega arith) in rw e refl
collapse-stays m k (Inside ps ∷ fs) a h l p = refl
collapse-stays m k (Asked b ∷ fs) a h l p = refl
collapse-stays m k (Answered b c ∷ fs) a h l p = let e = eqb-not k p in rw e refl

-- a place that the next symbol ends may be ended before
absorbs : (r : List Symbol) (f : Place) (fs : List Place) (b : Expression) → ends (pulls r) f ≡ true → outcome r (Has (f ∷ fs) b) ≡ outcome r (Has fs (joined f b))
unfolding outcome run step holding ended pulls
absorbs [] f fs b e = rw (collapse-ends 0 f fs b e) refl
absorbs (Between o ∷ ss) f fs b e = rw (collapse-ends (level o) f fs b e) refl
absorbs (Question ∷ ss) f fs b e = rw (collapse-ends 1 f fs b e) refl
absorbs (Number n u ∷ ss) f fs b e = refl
absorbs (Exclamation ∷ ss) f fs b e = refl
absorbs (Tilde ∷ ss) f fs b e = refl
absorbs (OpenParenthesis ∷ ss) f fs b e = refl
absorbs (CloseParenthesis ∷ ss) f fs b e = rw (collapse-ends 0 f fs b e) refl
absorbs (Colon ∷ ss) f fs b e = rw (collapse-ends 0 f fs b e) refl
absorbs (WideInteger ∷ ss) f fs b e = refl
absorbs (Stray ∷ ss) f fs b e = refl

-- the tree may stand behind the prefix operators
unfoldable Ready : Expression → List Prefix → Type 0
Ready (Leaf n u) ps = Unit {0}
Ready (Parens a) ps = Unit {0}
Ready (Unary p a) ps = Unit {0}
Ready (Binary o a b) ps = ps ≡ []
Ready (Choose a b c) ps = ps ≡ []

Ready-none : (t : Expression) → Ready t []
unfolding Ready
Ready-none (Leaf n u) = tt
Ready-none (Parens a) = tt
Ready-none (Unary p a) = tt
Ready-none (Binary o a b) = refl
Ready-none (Choose a b c) = refl

Ready-operand : (t : Expression) (ps : List Prefix) → StandsAt t 12 → Ready t ps
unfolding Ready StandsAt
Ready-operand (Leaf n u) ps h = tt
Ready-operand (Parens a) ps h = tt
Ready-operand (Unary p a) ps h = tt
Ready-operand (Binary o a b) ps h = absurd (omega (arith, h.0, level-below o))
Ready-operand (Choose a b c) ps h = absurd (omega (arith, h.0))

step-prefix : (p : Prefix) (fs : List Place) (ps : List Prefix) → step (Awaits fs ps) (prefix_symbol p) ≡ Awaits fs (p ∷ ps)
unfolding step awaiting prefix_symbol
step-prefix Not fs ps = refl
step-prefix Complement fs ps = refl
step-prefix Plus fs ps = refl
step-prefix Minus fs ps = refl

complete : (t : Expression) (m : ℕ) (fs : List Place) (ps : List Prefix) (r : List Symbol) → StandsAt t m → Stays m fs → Ready t ps → pulls r ≤ m → outcome (spelling t ++ r) (Awaits fs ps) ≡ outcome r (Has fs (unaries ps t))
unfolding outcome run step awaiting holding answered closed collapse ends joined unaries spelling StandsAt Stays Ready pulls
complete (Leaf n u) m fs ps r h s d p = refl
complete (Parens a) m fs ps r h s d p =
    ap (λ w. ended (run w (Awaits (Inside ps ∷ fs) []))) (append_assoc (spelling a) (CloseParenthesis ∷ []) r)
    ∙ complete a 0 (Inside ps ∷ fs) [] (CloseParenthesis ∷ r) h tt (Ready-none a) (omega arith)
complete (Unary q a) m fs ps r h s d p =
    ap (λ w. ended (run (spelling a ++ r) w)) (step-prefix q fs ps)
    ∙ complete a 12 fs (q ∷ ps) r h (Stays-always fs) (Ready-operand a (q ∷ ps) h) (pulls-below r)
complete (Binary o a b) m fs ps r h s d p =
    rw d (ap (λ w. ended (run w (Awaits fs []))) (append_assoc (spelling a) (Between o ∷ spelling b) r)
    ∙ complete a (level o) fs [] (Between o ∷ (spelling b ++ r)) h.1 (Stays-more m (level o) fs h.0 s) (Ready-none a) (omega arith)
    ∙ ap (λ (w : Closed). ended (run (spelling b ++ r) (Awaits (Left o w.tree ∷ w.places) []))) (collapse-stays m (level o) fs a s h.0 (omega (arith, level-above o)))
    ∙ complete b (level o + 1) (Left o a ∷ fs) [] r h.2 (omega arith) (Ready-none b) (omega (arith, h.0))
    ∙ absorbs r (Left o a) fs b (leb-from (pulls r) (level o) (omega (arith, h.0))))
complete (Choose a b c) m fs ps r h s d p =
    rw d (ap (λ w. ended (run w (Awaits fs []))) (append_assoc (spelling a) (Question ∷ (spelling b ++ Colon ∷ spelling c)) r)
    ∙ complete a 1 fs [] (Question ∷ ((spelling b ++ Colon ∷ spelling c) ++ r)) h.1 (Stays-more m 1 fs (omega (arith, h.0)) s) (Ready-none a) (omega arith)
    ∙ ap (λ (w : Closed). ended (run ((spelling b ++ Colon ∷ spelling c) ++ r) (Awaits (Asked w.tree ∷ w.places) []))) (collapse-stays m 1 fs a s (omega (arith, h.0)) (omega arith))
    ∙ ap (λ w. ended (run w (Awaits (Asked a ∷ fs) []))) (append_assoc (spelling b) (Colon ∷ spelling c) r)
    ∙ complete b 0 (Asked a ∷ fs) [] (Colon ∷ (spelling c ++ r)) h.2 tt (Ready-none b) (omega arith)
    ∙ complete c 0 (Answered a b ∷ fs) [] r h.3 tt (Ready-none c) (omega (arith, h.0))
    ∙ absorbs r (Answered a b) fs c (ap (λ n. eqb n 0) (let z : pulls r ≡ 0 = omega (arith, h.0) in z)))

pub complete-whole : (ss : List Symbol) (t : Expression) → IsCondition ss t → outcome ss (Awaits [] []) ≡ Some t
unfolding outcome run step collapse whole ended StandsAt Stays unaries pulls
complete-whole ss t c =
    ap (λ w. outcome w (Awaits [] [])) (c.spelled ∙ sym (append-nil (spelling t)))
    ∙ complete t 0 [] [] [] c.stands tt (Ready-none t) (omega arith)

-- a list of symbols has at most one tree
pub one_tree : (ss : List Symbol) (a b : Expression) → IsCondition ss a → IsCondition ss b → a ≡ b
one_tree ss a b c d = let e = complete-whole ss a c in let f = complete-whole ss b d in cc
