-- What is read as a tree is a condition with that tree.
use Rattle.std.proofs.Common.{◌≡◌, ℕ, ◌+◌, ◌<◌, ◌≤◌, Bool, true, false, List, [], ◌∷◌, ◌++◌, Some, refl, ap, sym, ◌∙◌, subst, append_assoc, append-nil, arith, eqb, leb}
use Rattle.std.proofs.lemmas.Bool.Decides.{nat_tests}
use Rattle.cb_cond.specs.declared.symbol.Operator.{Operator}
use Rattle.cb_cond.specs.declared.symbol.Operator.TheVariants.{Add, Subtract}
use Rattle.cb_cond.specs.declared.symbol.Prefix.{Prefix}
use Rattle.cb_cond.specs.declared.symbol.Prefix.TheVariants.{Not, Complement, Plus, Minus}
use Rattle.cb_cond.specs.declared.symbol.Symbol.{Symbol}
use Rattle.cb_cond.specs.declared.symbol.Symbol.TheVariants.{Number, Between, Exclamation, Tilde, OpenParenthesis, CloseParenthesis, Question, Colon, WideInteger, Stray}
use Rattle.cb_cond.specs.Grammar.{Expression, Leaf, Parens, Unary, Binary, Choose, level, prefix_symbol, spelling, StandsAt, IsCondition}
use Rattle.cb_cond.proofs.Reading.{Place, Left, Inside, Asked, Answered, Reading, Awaits, Has, Failed, unaries, ends, joined, Closed, collapse, awaiting, answered, closed, holding, step, run, whole, ended, outcome}
use Rattle.cb_cond.proofs.Complete.{Stays, Stays-always, level-above, level-below, collapse-ends, collapse-stops}

-- the symbols of prefix operators, of which the last stands first
unfoldable pub prefixes : List Prefix → List Symbol
prefixes [] = []
prefixes (p ∷ ps) = prefixes ps ++ prefix_symbol p ∷ []

-- the symbols of places
unfoldable pub written : List Place → List Symbol
written [] = []
written (Left o a ∷ fs) = written fs ++ (spelling a ++ Between o ∷ [])
written (Inside ps ∷ fs) = written fs ++ (prefixes ps ++ OpenParenthesis ∷ [])
written (Asked a ∷ fs) = written fs ++ (spelling a ++ Question ∷ [])
written (Answered a b ∷ fs) = written fs ++ (spelling a ++ Question ∷ (spelling b ++ Colon ∷ []))

-- each tree stands where it may, and operators bind more tightly than those below them
unfoldable pub Sound : List Place → Type 0
Sound [] = Unit {0}
Sound (Left o a ∷ fs) = StandsAt a (level o) × Stays (level o) fs × Sound fs
Sound (Inside ps ∷ fs) = Sound fs
Sound (Asked a ∷ fs) = StandsAt a 1 × Stays 0 fs × Sound fs
Sound (Answered a b ∷ fs) = StandsAt a 1 × StandsAt b 0 × Stays 0 fs × Sound fs

StandsAt-less : (t : Expression) (m n : ℕ) → n ≤ m → StandsAt t m → StandsAt t n
unfolding StandsAt
StandsAt-less (Leaf x u) m n l h = tt
StandsAt-less (Parens a) m n l h = h
StandsAt-less (Unary p a) m n l h = h
StandsAt-less (Binary o a b) m n l h = (omega (arith, h.0), h.1, h.2)
StandsAt-less (Choose a b c) m n l h = (omega (arith, h.0), h.1, h.2, h.3)

Stays-none : (fs : List Place) → Stays 1 fs → Stays 0 fs
unfolding Stays
Stays-none [] h = tt
Stays-none (Left o a ∷ fs) h = omega (arith, level-above o)
Stays-none (Inside ps ∷ fs) h = tt
Stays-none (Asked a ∷ fs) h = tt
Stays-none (Answered a b ∷ fs) h = tt

StandsAt-unaries : (ps : List Prefix) (t : Expression) → StandsAt t 12 → StandsAt (unaries ps t) 12
unfolding StandsAt unaries
StandsAt-unaries [] t h = h
StandsAt-unaries (p ∷ ps) t h = StandsAt-unaries ps (Unary p t) h

spelling-unaries : (ps : List Prefix) (t : Expression) → spelling (unaries ps t) ≡ prefixes ps ++ spelling t
unfolding spelling unaries prefixes
spelling-unaries [] t = refl
spelling-unaries (p ∷ ps) t = spelling-unaries ps (Unary p t) ∙ sym (append_assoc (prefixes ps) (prefix_symbol p ∷ []) (spelling t))

-- what a collapse leaves
pub record Kept (k : ℕ) (fs : List Place) (a : Expression) (r : Closed) : Type 0 where
  sound : Sound r.places
  stands : StandsAt r.tree k
  stays : Stays k r.places
  spelled : written r.places ++ spelling r.tree ≡ written fs ++ spelling a

leb-is : (m n : ℕ) → leb m n ≡ true → m ≤ n
leb-is m n h = grind (arith, nat_tests)

leb-is_not : (m n : ℕ) → leb m n ≡ false → n < m
leb-is_not m n h = grind (arith, nat_tests)

eqb-is : (m n : ℕ) → eqb m n ≡ true → m ≡ n
eqb-is m n h = grind (arith, nat_tests)

written-left : (o : Operator) (a b : Expression) (fs : List Place) → written fs ++ spelling (Binary o a b) ≡ written (Left o a ∷ fs) ++ spelling b
unfolding written spelling
written-left o a b fs = simp append_assoc

written-answered : (a b c : Expression) (fs : List Place) → written fs ++ spelling (Choose a b c) ≡ written (Answered a b ∷ fs) ++ spelling c
unfolding written spelling
written-answered a b c fs = simp append_assoc

Kept-along : (k : ℕ) (fs gs : List Place) (a b : Expression) (r : Closed) → written gs ++ spelling b ≡ written fs ++ spelling a → Kept k gs b r → Kept k fs a r
Kept-along k fs gs a b r e h = record { sound = h.sound; stands = h.stands; stays = h.stays; spelled = h.spelled ∙ e }

Kept-at : (k : ℕ) (fs : List Place) (a : Expression) (r s : Closed) → s ≡ r → Kept k fs a r → Kept k fs a s
Kept-at k fs a r s e h = rw e h

keeps-left : (k j : ℕ) (o : Operator) (b a : Expression) (fs : List Place) → Sound (Left o b ∷ fs) → level o < j → StandsAt a j → k ≤ j
    → (k ≤ level o → StandsAt (Binary o b a) (level o) → Kept k fs (Binary o b a) (collapse k fs (Binary o b a)))
    → (v : Bool) → leb k (level o) ≡ v → Kept k (Left o b ∷ fs) a (collapse k (Left o b ∷ fs) a)
unfolding Sound Stays StandsAt ends joined
keeps-left k j o b a fs s t h l ih true e =
    Kept-at k (Left o b ∷ fs) a (collapse k fs (Binary o b a)) _ (collapse-ends k (Left o b) fs a e)
    (Kept-along k (Left o b ∷ fs) fs a (Binary o b a) _ (written-left o b a fs)
    (ih (leb-is k (level o) e) (omega arith, s.0, StandsAt-less a j (level o + 1) (omega arith) h)))
keeps-left k j o b a fs s t h l ih false e =
    let n = leb-is_not k (level o) e in
    Kept-at k (Left o b ∷ fs) a _ _ (collapse-stops k (Left o b) fs a e)
    (record { sound = s; stands = StandsAt-less a j k l h; stays = n; spelled = refl })

keeps-answered : (k j : ℕ) (b c a : Expression) (fs : List Place) → Sound (Answered b c ∷ fs) → StandsAt a j → k ≤ j
    → (k ≡ 0 → StandsAt (Choose b c a) 0 → Kept k fs (Choose b c a) (collapse k fs (Choose b c a)))
    → (v : Bool) → eqb k 0 ≡ v → Kept k (Answered b c ∷ fs) a (collapse k (Answered b c ∷ fs) a)
unfolding Sound Stays StandsAt ends joined
keeps-answered k j b c a fs s h l ih true e =
    Kept-at k (Answered b c ∷ fs) a (collapse k fs (Choose b c a)) _ (collapse-ends k (Answered b c) fs a e)
    (Kept-along k (Answered b c ∷ fs) fs a (Choose b c a) _ (written-answered b c a fs)
    (ih (eqb-is k 0 e) (refl, s.0, s.1, StandsAt-less a j 0 (omega arith) h)))
keeps-answered k j b c a fs s h l ih false e =
    Kept-at k (Answered b c ∷ fs) a _ _ (collapse-stops k (Answered b c) fs a e)
    (record { sound = s; stands = StandsAt-less a j k l h; stays = tt; spelled = refl })

keeps : (k j : ℕ) (fs : List Place) (a : Expression) → Sound fs → Stays j fs → StandsAt a j → k ≤ j → Kept k fs a (collapse k fs a)
unfolding Sound Stays collapse ends
keeps k j [] a s t h l = record { sound = tt; stands = StandsAt-less a j k l h; stays = tt; spelled = refl }
keeps k j (Left o b ∷ fs) a s t h l =
    keeps-left k j o b a fs s t h l (λ e w. keeps k (level o) fs (Binary o b a) s.2 s.1 w e) (leb k (level o)) refl
keeps k j (Inside ps ∷ fs) a s t h l = record { sound = s; stands = StandsAt-less a j k l h; stays = tt; spelled = refl }
keeps k j (Asked b ∷ fs) a s t h l = record { sound = s; stands = StandsAt-less a j k l h; stays = tt; spelled = refl }
keeps k j (Answered b c ∷ fs) a s t h l =
    keeps-answered k j b c a fs s h l (λ e w. keeps k 0 fs (Choose b c a) s.3 s.2 w (omega arith)) (eqb k 0) refl

-- the symbols are read so
unfoldable pub Good : Reading → List Symbol → Type 0
Good (Awaits fs ps) ss = Sound fs × (ss ≡ written fs ++ prefixes ps)
Good (Has fs a) ss = Sound fs × StandsAt a 12 × (ss ≡ written fs ++ spelling a)
Good Failed ss = Unit {0}

behind : (ss xs ys : List Symbol) (s : Symbol) → ss ≡ xs ++ ys → ss ++ s ∷ [] ≡ xs ++ (ys ++ s ∷ [])
behind ss xs ys s e = rw e (append_assoc xs ys (s ∷ []))

good-operand : (fs : List Place) (ps : List Prefix) (t : Expression) (ss ts : List Symbol) → Sound fs → StandsAt t 12 → ss ≡ written fs ++ (prefixes ps ++ spelling t) → Good (Has fs (unaries ps t)) ss
unfolding Good
good-operand fs ps t ss ts s h e = (s, StandsAt-unaries ps t h, e ∙ ap (λ w. written fs ++ w) (sym (spelling-unaries ps t)))

good-prefix : (fs : List Place) (ps : List Prefix) (p : Prefix) (ss : List Symbol) → Sound fs → ss ≡ written fs ++ prefixes ps → Good (Awaits fs (p ∷ ps)) (ss ++ prefix_symbol p ∷ [])
unfolding Good prefixes
good-prefix fs ps p ss s e = (s, behind ss (written fs) (prefixes ps) (prefix_symbol p) e)

good-awaiting : (fs : List Place) (ps : List Prefix) (ss : List Symbol) (s : Symbol) → Sound fs → ss ≡ written fs ++ prefixes ps → Good (awaiting fs ps s) (ss ++ s ∷ [])
unfolding awaiting Good StandsAt spelling prefix_symbol Sound written prefixes
good-awaiting fs ps ss (Number n u) h e = good-operand fs ps (Leaf n u) _ [] h tt (behind ss (written fs) (prefixes ps) _ e)
good-awaiting fs ps ss (Between Add) h e = good-prefix fs ps Plus ss h e
good-awaiting fs ps ss (Between Subtract) h e = good-prefix fs ps Minus ss h e
good-awaiting fs ps ss Exclamation h e = good-prefix fs ps Not ss h e
good-awaiting fs ps ss Tilde h e = good-prefix fs ps Complement ss h e
good-awaiting fs ps ss OpenParenthesis h e = (h, behind ss (written fs) (prefixes ps) OpenParenthesis e ∙ sym (append-nil _))
good-awaiting fs ps ss _ h e = tt

-- what stands before the symbol that ends places
before : (k : ℕ) (fs : List Place) (a : Expression) (ss : List Symbol) (s : Symbol) → Kept k fs a (collapse k fs a) → ss ≡ written fs ++ spelling a
    → ss ++ s ∷ [] ≡ written (collapse k fs a).places ++ (spelling (collapse k fs a).tree ++ s ∷ [])
before k fs a ss s h e = behind ss _ _ s (e ∙ sym h.spelled)

good-answered : (fs : List Place) (b : Expression) (ss : List Symbol) → Sound fs → StandsAt b 0 → ss ≡ written fs ++ (spelling b ++ Colon ∷ []) → Good (answered fs b) ss
unfolding answered Good Sound written prefixes
good-answered [] b ss h k e = tt
good-answered (Left o a ∷ fs) b ss h k e = tt
good-answered (Inside ps ∷ fs) b ss h k e = tt
good-answered (Asked a ∷ fs) b ss h k e = ((h.0, k, h.1, h.2), e ∙ simp append_assoc)
good-answered (Answered a c ∷ fs) b ss h k e = tt

good-closed : (fs : List Place) (a : Expression) (ss : List Symbol) → Sound fs → StandsAt a 0 → ss ≡ written fs ++ (spelling a ++ CloseParenthesis ∷ []) → Good (closed fs a) ss
unfolding closed Sound written StandsAt spelling
good-closed [] a ss h k e = unfold Good in tt
good-closed (Left o b ∷ fs) a ss h k e = unfold Good in tt
good-closed (Inside ps ∷ fs) a ss h k e = good-operand fs ps (Parens a) ss [] h k (e ∙ simp append_assoc)
good-closed (Asked b ∷ fs) a ss h k e = unfold Good in tt
good-closed (Answered b c ∷ fs) a ss h k e = unfold Good in tt

good-holding : (fs : List Place) (a : Expression) (ss : List Symbol) (s : Symbol) → Sound fs → StandsAt a 12 → ss ≡ written fs ++ spelling a → Good (holding fs a s) (ss ++ s ∷ [])
unfolding holding Good Sound written prefixes
good-holding fs a ss (Number n u) h k e = tt
good-holding fs a ss (Between o) h k e =
    let r = keeps (level o) 12 fs a h (Stays-always fs) k (omega (arith, level-below o)) in
    ((r.stands, r.stays, r.sound), before (level o) fs a ss (Between o) r e ∙ sym (append-nil _))
good-holding fs a ss Exclamation h k e = tt
good-holding fs a ss Tilde h k e = tt
good-holding fs a ss OpenParenthesis h k e = tt
good-holding fs a ss CloseParenthesis h k e =
    let r = keeps 0 12 fs a h (Stays-always fs) k (omega arith) in
    good-closed _ _ _ r.sound r.stands (before 0 fs a ss CloseParenthesis r e)
good-holding fs a ss Question h k e =
    let r = keeps 1 12 fs a h (Stays-always fs) k (omega arith) in
    ((r.stands, Stays-none _ r.stays, r.sound), before 1 fs a ss Question r e ∙ sym (append-nil _))
good-holding fs a ss Colon h k e =
    let r = keeps 0 12 fs a h (Stays-always fs) k (omega arith) in
    good-answered _ _ _ r.sound r.stands (before 0 fs a ss Colon r e)
good-holding fs a ss WideInteger h k e = tt
good-holding fs a ss Stray h k e = tt

good-step : (r : Reading) (ss : List Symbol) (s : Symbol) → Good r ss → Good (step r s) (ss ++ s ∷ [])
unfolding step Good
good-step (Awaits fs ps) ss s h = good-awaiting fs ps ss s h.0 h.1
good-step (Has fs a) ss s h = good-holding fs a ss s h.0 h.1 h.2
good-step Failed ss s h = tt

pub good-run : (ts ss : List Symbol) (r : Reading) → Good r ss → Good (run ts r) (ss ++ ts)
unfolding run
good-run [] ss r h = rw append-nil h
good-run (t ∷ ts) ss r h = rw (← append_assoc ss (t ∷ []) ts) (good-run ts (ss ++ t ∷ []) (step r t) (good-step r ss t h))

condition-whole : (fs : List Place) (a t : Expression) (ss : List Symbol) → StandsAt a 0 → written fs ++ spelling a ≡ ss → whole fs a ≡ Some t → IsCondition ss t
unfolding whole written
condition-whole [] a t ss h e w = let same : a ≡ t = cc in let P : Expression → Type 0 = λ x. IsCondition ss x in subst P same (record { stands = h; spelled = sym e })
condition-whole (f ∷ fs) a t ss h e w = cc

condition-ended : (r : Reading) (t : Expression) (ss : List Symbol) → Good r ss → ended r ≡ Some t → IsCondition ss t
unfolding ended Good
condition-ended (Awaits fs ps) t ss h w = cc
condition-ended (Has fs a) t ss h w =
    let r = keeps 0 12 fs a h.0 (Stays-always fs) h.1 (omega arith) in
    condition-whole _ _ t ss r.stands (r.spelled ∙ sym h.2) w
condition-ended Failed t ss h w = cc

-- what is read as a tree is a condition with that tree
pub condition : (ss : List Symbol) (t : Expression) → outcome ss (Awaits [] []) ≡ Some t → IsCondition ss t
unfolding outcome Good Sound written prefixes
condition ss t e = condition-ended (run ss (Awaits [] [])) t ss (good-run ss [] (Awaits [] []) (tt, refl)) e
