-- How many places there can be at once.
use Rattle.std.proofs.Common.{◌≡◌, ℕ, ◌+◌, ◌*◌, ◌<◌, ◌≤◌, Bool, true, false, cond, List, [], ◌∷◌, ◌++◌, length, count_by, append_assoc, append-nil, refl, arith, eqb, leb}
use Rattle.std.proofs.lemmas.List.Sums.{sum_by_push}
use Rattle.cb_cond.specs.declared.symbol.Operator.{Operator}
use Rattle.cb_cond.specs.declared.symbol.Operator.TheVariants.{Add, Subtract}
use Rattle.cb_cond.specs.declared.symbol.Prefix.{Prefix}
use Rattle.cb_cond.specs.declared.symbol.Symbol.{Symbol}
use Rattle.cb_cond.specs.declared.symbol.Symbol.TheVariants.{Number, Between, Exclamation, Tilde, OpenParenthesis, CloseParenthesis, Question, Colon}
use Rattle.cb_cond.specs.Grammar.{Expression, level}
use Rattle.cb_cond.specs.Faults.{is_open, is_close, is_question}
use Rattle.cb_cond.proofs.Reading.{Place, Left, Inside, Asked, Answered, Reading, Awaits, Has, Failed, ends, joined, Closed, collapse, awaiting, answered, closed, holding, step, run}
use Rattle.cb_cond.proofs.Complete.{Stays, level-above, level-below}
use Rattle.cb_cond.proofs.Sound.{Sound}

-- the open parentheses
unfoldable pub insides : List Place → ℕ
insides [] = 0
insides (Left o a ∷ fs) = insides fs
insides (Inside ps ∷ fs) = insides fs + 1
insides (Asked a ∷ fs) = insides fs
insides (Answered a b ∷ fs) = insides fs

-- the open choices
unfoldable pub asks : List Place → ℕ
asks [] = 0
asks (Left o a ∷ fs) = asks fs
asks (Inside ps ∷ fs) = asks fs
asks (Asked a ∷ fs) = asks fs + 1
asks (Answered a b ∷ fs) = asks fs + 1

-- the level of the innermost place
unfoldable pub rank : List Place → ℕ
rank [] = 1
rank (Left o a ∷ fs) = level o
rank (Inside ps ∷ fs) = 1
rank (Asked a ∷ fs) = 1
rank (Answered a b ∷ fs) = 1

pub rank-below : (fs : List Place) → rank fs < 12
unfolding rank
rank-below [] = omega arith
rank-below (Left o a ∷ fs) = level-below o
rank-below (Inside ps ∷ fs) = omega arith
rank-below (Asked a ∷ fs) = omega arith
rank-below (Answered a b ∷ fs) = omega arith

rank-stays : (o : Operator) (fs : List Place) → Stays (level o) fs → rank fs < level o
unfolding rank Stays
rank-stays o [] h = level-above o
rank-stays o (Left p a ∷ fs) h = h
rank-stays o (Inside ps ∷ fs) h = level-above o
rank-stays o (Asked a ∷ fs) h = level-above o
rank-stays o (Answered a b ∷ fs) h = level-above o

rank-none : (fs : List Place) → Stays 0 fs → rank fs ≡ 1
unfolding rank Stays
rank-none [] h = refl
rank-none (Left o a ∷ fs) h = omega arith
rank-none (Inside ps ∷ fs) h = refl
rank-none (Asked a ∷ fs) h = refl
rank-none (Answered a b ∷ fs) h = refl

-- operators bind more tightly than those below them, so at most ten stand on what is open, and none below a choice
pub few : (fs : List Place) → Sound fs → length fs + 1 ≤ 11 * insides fs + asks fs + rank fs
unfolding Sound insides asks rank
few [] h = omega arith
few (Left o a ∷ fs) h = let l = few fs h.2 in let r = rank-stays o fs h.1 in omega arith
few (Inside ps ∷ fs) h = let l = few fs h in let r = rank-below fs in omega arith
few (Asked a ∷ fs) h = let l = few fs h.2 in let r = rank-none fs h.1 in omega arith
few (Answered a b ∷ fs) h = let l = few fs h.3 in let r = rank-none fs h.2 in omega arith

-- no other places are open
record Counts (fs gs : List Place) : Type 0 where
  same : insides gs ≡ insides fs
  fewer : asks gs ≤ asks fs

counts-if : (v : Bool) (r s : Closed) (fs : List Place) → Counts fs r.places → Counts fs s.places → Counts fs (cond v r s).places
counts-if true r s fs h k = h
counts-if false r s fs h k = k

counts-collapse : (k : ℕ) (fs : List Place) (a : Expression) → Counts fs (collapse k fs a).places
unfolding collapse ends insides asks
counts-collapse k [] a = record { same = refl; fewer = omega arith }
counts-collapse k (Left o b ∷ fs) a =
    let h = counts-collapse k fs (joined (Left o b) a) in
    counts-if (leb k (level o)) (collapse k fs (joined (Left o b) a)) (record { places = Left o b ∷ fs; tree = a }) (Left o b ∷ fs)
    (record { same = h.same; fewer = h.fewer }) (record { same = refl; fewer = omega arith })
counts-collapse k (Inside ps ∷ fs) a = record { same = refl; fewer = omega arith }
counts-collapse k (Asked b ∷ fs) a = record { same = refl; fewer = omega arith }
counts-collapse k (Answered b c ∷ fs) a =
    let h = counts-collapse k fs (joined (Answered b c) a) in
    counts-if (eqb k 0) (collapse k fs (joined (Answered b c) a)) (record { places = Answered b c ∷ fs; tree = a }) (Answered b c ∷ fs)
    (record { same = h.same; fewer = omega arith }) (record { same = refl; fewer = omega arith })

-- what is open, by the symbols that were read
pub record Holds (fs : List Place) (ss : List Symbol) : Type 0 where
  pub parentheses : insides fs + count_by is_close ss ≡ count_by is_open ss
  pub choices : asks fs ≤ count_by is_question ss

holds-from : (fs gs : List Place) (ss : List Symbol) (s : Symbol) (o c q : ℕ) → cond (is_open s) 1 0 ≡ o → cond (is_close s) 1 0 ≡ c → cond (is_question s) 1 0 ≡ q
    → Holds fs ss → insides gs + c ≡ insides fs + o → asks gs ≤ asks fs + q → Holds gs (ss ++ s ∷ [])
holds-from fs gs ss s o c q x y z h e l =
    let a = sum_by_push (λ t. cond (is_open t) 1 0) ss s in
    let b = sum_by_push (λ t. cond (is_close t) 1 0) ss s in
    let d = sum_by_push (λ t. cond (is_question t) 1 0) ss s in
    record { parentheses = omega arith; choices = omega arith }

unfoldable pub Counted : Reading → List Symbol → Type 0
Counted (Awaits fs ps) ss = Holds fs ss
Counted (Has fs a) ss = Holds fs ss
Counted Failed ss = Unit {0}

counted-awaiting : (fs : List Place) (ps : List Prefix) (ss : List Symbol) (s : Symbol) → Holds fs ss → Counted (awaiting fs ps s) (ss ++ s ∷ [])
unfolding Counted awaiting is_open is_close is_question insides asks
counted-awaiting fs ps ss (Number n u) h = holds-from fs fs ss (Number n u) 0 0 0 refl refl refl h (omega arith) (omega arith)
counted-awaiting fs ps ss (Between Add) h = holds-from fs fs ss (Between Add) 0 0 0 refl refl refl h (omega arith) (omega arith)
counted-awaiting fs ps ss (Between Subtract) h = holds-from fs fs ss (Between Subtract) 0 0 0 refl refl refl h (omega arith) (omega arith)
counted-awaiting fs ps ss Exclamation h = holds-from fs fs ss Exclamation 0 0 0 refl refl refl h (omega arith) (omega arith)
counted-awaiting fs ps ss Tilde h = holds-from fs fs ss Tilde 0 0 0 refl refl refl h (omega arith) (omega arith)
counted-awaiting fs ps ss OpenParenthesis h = holds-from fs (Inside ps ∷ fs) ss OpenParenthesis 1 0 0 refl refl refl h (omega arith) (omega arith)
counted-awaiting fs ps ss _ h = tt

counted-answered : (fs gs : List Place) (b : Expression) (ss : List Symbol) → Counts fs gs → Holds fs ss → Counted (answered gs b) (ss ++ Colon ∷ [])
unfolding Counted answered is_open is_close is_question insides asks
counted-answered fs [] b ss c h = tt
counted-answered fs (Left o a ∷ gs) b ss c h = tt
counted-answered fs (Inside ps ∷ gs) b ss c h = tt
counted-answered fs (Asked a ∷ gs) b ss c h =
    holds-from fs (Answered a b ∷ gs) ss Colon 0 0 0 refl refl refl h (omega (arith, c.same)) (omega (arith, c.fewer))
counted-answered fs (Answered a d ∷ gs) b ss c h = tt

counted-closed : (fs gs : List Place) (a : Expression) (ss : List Symbol) → Counts fs gs → Holds fs ss → Counted (closed gs a) (ss ++ CloseParenthesis ∷ [])
unfolding Counted closed is_open is_close is_question insides asks
counted-closed fs [] a ss c h = tt
counted-closed fs (Left o b ∷ gs) a ss c h = tt
counted-closed fs (Inside ps ∷ gs) a ss c h =
    holds-from fs gs ss CloseParenthesis 0 1 0 refl refl refl h (omega (arith, c.same)) (omega (arith, c.fewer))
counted-closed fs (Asked b ∷ gs) a ss c h = tt
counted-closed fs (Answered b d ∷ gs) a ss c h = tt

counted-holding : (fs : List Place) (a : Expression) (ss : List Symbol) (s : Symbol) → Holds fs ss → Counted (holding fs a s) (ss ++ s ∷ [])
unfolding Counted holding is_open is_close is_question insides asks
counted-holding fs a ss (Between o) h =
    let c = counts-collapse (level o) fs a in
    holds-from fs (Left o (collapse (level o) fs a).tree ∷ (collapse (level o) fs a).places) ss (Between o) 0 0 0 refl refl refl h (omega (arith, c.same)) (omega (arith, c.fewer))
counted-holding fs a ss Question h =
    let c = counts-collapse 1 fs a in
    holds-from fs (Asked (collapse 1 fs a).tree ∷ (collapse 1 fs a).places) ss Question 0 0 1 refl refl refl h (omega (arith, c.same)) (omega (arith, c.fewer))
counted-holding fs a ss Colon h = counted-answered fs _ _ ss (counts-collapse 0 fs a) h
counted-holding fs a ss CloseParenthesis h = counted-closed fs _ _ ss (counts-collapse 0 fs a) h
counted-holding fs a ss _ h = tt

counted-step : (r : Reading) (ss : List Symbol) (s : Symbol) → Counted r ss → Counted (step r s) (ss ++ s ∷ [])
unfolding Counted step
counted-step (Awaits fs ps) ss s h = counted-awaiting fs ps ss s h
counted-step (Has fs a) ss s h = counted-holding fs a ss s h
counted-step Failed ss s h = tt

pub counted-run : (ts ss : List Symbol) (r : Reading) → Counted r ss → Counted (run ts r) (ss ++ ts)
unfolding run
counted-run [] ss r h = rw append-nil h
counted-run (t ∷ ts) ss r h = rw (← append_assoc ss (t ∷ []) ts) (counted-run ts (ss ++ t ∷ []) (step r t) (counted-step r ss t h))
