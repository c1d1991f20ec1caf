-- A list of symbols has one answer.
use Rattle.std.proofs.Common.{◌≡◌, ◌==◌, ℕ, zero, suc, ◌<◌, Bool, not, List, [], ◌∷◌, ◌++◌, length, get_or, Result, Ok, Err, refl, ap, sym, ◌∙◌, subst, arith}
use Rattle.cb_cond.specs.declared.symbol.Prefix.{Prefix}
use Rattle.cb_cond.specs.declared.symbol.Prefix.TheVariants.{Not, Complement, Plus, Minus}
use Rattle.cb_cond.specs.declared.symbol.Symbol.{Symbol}
use Rattle.cb_cond.specs.declared.symbol.Symbol.TheVariants.{Between, CloseParenthesis, Question, Colon, WideInteger}
use Rattle.cb_cond.specs.declared.meaning.Value.{Value}
use Rattle.cb_cond.specs.declared.meaning.Value.TheVariants as values
use Rattle.cb_cond.specs.declared.bad_condition.BadCondition.{BadCondition}
use Rattle.cb_cond.specs.declared.bad_condition.BadCondition.TheVariants as bad
use Rattle.cb_cond.specs.Grammar.{Expression, Leaf, Parens, Unary, Binary, Choose, prefix_symbol, spelling, IsCondition}
use Rattle.cb_cond.specs.Values.{meaning}
use Rattle.cb_cond.specs.Faults.{IsTooWide, IsAnswer}
use Rattle.cb_cond.proofs.Complete.{one_tree}
use Rattle.cb_cond.proofs.Constants.{integer-is, integer-only}

-- no integer is too wide
unfoldable IsNarrow : List Symbol → Type 0
IsNarrow [] = Unit {0}
IsNarrow (s ∷ ss) = (s ≡ WideInteger → ⊥) × IsNarrow ss

IsNarrow-append : (ss ts : List Symbol) → IsNarrow ss → IsNarrow ts → IsNarrow (ss ++ ts)
unfolding IsNarrow
IsNarrow-append [] ts h k = k
IsNarrow-append (s ∷ ss) ts h k = (h.0, IsNarrow-append ss ts h.1 k)

IsNarrow-prefix : (p : Prefix) → prefix_symbol p ≡ WideInteger → ⊥
unfolding prefix_symbol
IsNarrow-prefix Not = λ e. cc
IsNarrow-prefix Complement = λ e. cc
IsNarrow-prefix Plus = λ e. cc
IsNarrow-prefix Minus = λ e. cc

IsNarrow-spelling : (t : Expression) → IsNarrow (spelling t)
unfolding IsNarrow spelling
IsNarrow-spelling (Leaf n u) = (λ e. cc, tt)
IsNarrow-spelling (Parens a) = (λ e. cc, IsNarrow-append (spelling a) (CloseParenthesis ∷ []) (IsNarrow-spelling a) (λ e. cc, tt))
IsNarrow-spelling (Unary p a) = (IsNarrow-prefix p, IsNarrow-spelling a)
IsNarrow-spelling (Binary o a b) = IsNarrow-append (spelling a) (Between o ∷ spelling b) (IsNarrow-spelling a) (λ e. cc, IsNarrow-spelling b)
IsNarrow-spelling (Choose a b c) =
    IsNarrow-append (spelling a) (Question ∷ (spelling b ++ Colon ∷ spelling c)) (IsNarrow-spelling a)
    (λ e. cc, IsNarrow-append (spelling b) (Colon ∷ spelling c) (IsNarrow-spelling b) (λ e. cc, IsNarrow-spelling c))

narrow-at : (ss : List Symbol) (k : ℕ) → IsNarrow ss → k < length ss → get_or ss k WideInteger ≡ WideInteger → ⊥
unfolding IsNarrow
narrow-at [] k h l e = omega arith
narrow-at (s ∷ ss) zero h l e = h.0 e
narrow-at (s ∷ ss) (suc k) h l e = narrow-at ss k h.1 (omega arith) e

-- in a condition no integer is too wide
narrow : (ss : List Symbol) (t : Expression) → IsCondition ss t → IsTooWide ss → ⊥
narrow ss t c w = let P : List Symbol → Type 0 = IsNarrow in narrow-at ss w.0 (subst P (sym c.spelled) (IsNarrow-spelling t)) w.1 w.2

same-value : (ss : List Symbol) (a b : Expression) (x y : Value) → IsCondition ss a → IsCondition ss b → (meaning a).value ≡ x → (meaning b).value ≡ y → x ≡ y
same-value ss a b x y c d e f = sym e ∙ ap (λ t. (meaning t).value) (one_tree ss a b c d) ∙ f

same-holds : (m n : ℕ) (v w : Bool) → values.Bits m ≡ values.Bits n → v ≡ not (m == 0) → w ≡ not (n == 0) → v ≡ w
same-holds m n v w e f g = let same : m ≡ n = cc in f ∙ ap (λ b. not (b == 0)) same ∙ sym g

-- a list of symbols has one answer
pub one_answer : (ss : List Symbol) (r s : Result Bool BadCondition) → IsAnswer ss r → IsAnswer ss s → r ≡ s
one_answer ss (Err bad.TooDeep) (Err bad.TooDeep) h k = refl
one_answer ss (Err bad.TooDeep) _ h k = absurd (k.0 h)
one_answer ss (Err bad.TooWide) (Err bad.TooDeep) h k = absurd (h.0 k)
one_answer ss (Err bad.TooWide) (Err bad.TooWide) h k = refl
one_answer ss (Err bad.TooWide) (Err bad.Malformed) h k = absurd (k.1 h.1)
one_answer ss (Err bad.TooWide) (Err bad.ZeroDivisor) h k = absurd (narrow ss k.1.0 k.1.1 h.1)
one_answer ss (Err bad.TooWide) (Err bad.Shift) h k = absurd (narrow ss k.1.0 k.1.1 h.1)
one_answer ss (Err bad.TooWide) (Ok v) h k = absurd (narrow ss k.1.0 k.1.2 h.1)
one_answer ss (Err bad.Malformed) (Err bad.TooDeep) h k = absurd (h.0 k)
one_answer ss (Err bad.Malformed) (Err bad.TooWide) h k = absurd (h.1 k.1)
one_answer ss (Err bad.Malformed) (Err bad.Malformed) h k = refl
one_answer ss (Err bad.Malformed) (Err bad.ZeroDivisor) h k = absurd (h.2 k.1.0 k.1.1)
one_answer ss (Err bad.Malformed) (Err bad.Shift) h k = absurd (h.2 k.1.0 k.1.1)
one_answer ss (Err bad.Malformed) (Ok v) h k = absurd (h.2 k.1.0 k.1.2)
one_answer ss (Err bad.ZeroDivisor) (Err bad.TooDeep) h k = absurd (h.0 k)
one_answer ss (Err bad.ZeroDivisor) (Err bad.TooWide) h k = absurd (narrow ss h.1.0 h.1.1 k.1)
one_answer ss (Err bad.ZeroDivisor) (Err bad.Malformed) h k = absurd (k.2 h.1.0 h.1.1)
one_answer ss (Err bad.ZeroDivisor) (Err bad.ZeroDivisor) h k = refl
one_answer ss (Err bad.ZeroDivisor) (Err bad.Shift) h k = let e = same-value ss h.1.0 k.1.0 _ _ h.1.1 k.1.1 h.1.2 k.1.2 in cc
one_answer ss (Err bad.ZeroDivisor) (Ok v) h k = let e = same-value ss h.1.0 k.1.0 _ _ h.1.1 k.1.2 h.1.2 k.1.3 in cc
one_answer ss (Err bad.Shift) (Err bad.TooDeep) h k = absurd (h.0 k)
one_answer ss (Err bad.Shift) (Err bad.TooWide) h k = absurd (narrow ss h.1.0 h.1.1 k.1)
one_answer ss (Err bad.Shift) (Err bad.Malformed) h k = absurd (k.2 h.1.0 h.1.1)
one_answer ss (Err bad.Shift) (Err bad.ZeroDivisor) h k = let e = same-value ss h.1.0 k.1.0 _ _ h.1.1 k.1.1 h.1.2 k.1.2 in cc
one_answer ss (Err bad.Shift) (Err bad.Shift) h k = refl
one_answer ss (Err bad.Shift) (Ok v) h k = let e = same-value ss h.1.0 k.1.0 _ _ h.1.1 k.1.2 h.1.2 k.1.3 in cc
one_answer ss (Ok v) (Err bad.TooDeep) h k = absurd (h.0 k)
one_answer ss (Ok v) (Err bad.TooWide) h k = absurd (narrow ss h.1.0 h.1.2 k.1)
one_answer ss (Ok v) (Err bad.Malformed) h k = absurd (k.2 h.1.0 h.1.2)
one_answer ss (Ok v) (Err bad.ZeroDivisor) h k = let e = same-value ss h.1.0 k.1.0 _ _ h.1.2 k.1.1 h.1.3 k.1.2 in cc
one_answer ss (Ok v) (Err bad.Shift) h k = let e = same-value ss h.1.0 k.1.0 _ _ h.1.2 k.1.1 h.1.3 k.1.2 in cc
one_answer ss (Ok v) (Ok w) h k =
    let e = same-value ss h.1.0 k.1.0 _ _ h.1.2 k.1.2 h.1.3 k.1.3 in
    ap Ok (same-holds h.1.1 k.1.1 v w e h.1.4 k.1.4)

pub ruleset exact = (one_tree, one_answer, integer-is, integer-only)
