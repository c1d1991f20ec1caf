-- The members of a set are those of the first platforms that it holds.
use Rattle.std.proofs.Common.{◌≡◌, ℕ, ◌+◌, ◌<◌, ◌≤◌, Bool, true, false, ◌||◌, ◌&&◌, cond, eqb, List, [], ◌∷◌, refl, sym, ap, ◌∙◌, suc, zero, inl, inr, arith}
use Rattle.std.specs.List.{All, filter, range_with_len}
use Rattle.std.specs.List.Sorted.{IsStrictlyIncreasing}
use Rattle.std.proofs.lemmas.Bool.{cases_Bool, cases_eq, cases_lt, eq-eqb, ne_eqb, false≢true}
use Rattle.std.proofs.lemmas.List.Elements.{All-nil, All-cons, All-head, All-tail}
use Rattle.std.proofs.lemmas.List.Kept.{IsStrictlyIncreasing-filter}
use Rattle.cb_lines.specs.Lines.{has_line}
use Rattle.cb_sets.specs.declared.platform_set.PlatformSet.{PlatformSet}
use Rattle.cb_sets.specs.Sets.{members}
use Rattle.cb_sets.proofs.Bits.{Rising, increasing_from_rising}
use Rattle.cb_sets.proofs.Held.{members_rise, outside}

Rising-range : (a n : ℕ) → Rising a (range_with_len a n)
Rising-range a zero = tt
Rising-range a (suc n) = (omega arith, Rising-range (a + 1) n)

has-range : (a n l : ℕ) → a ≤ l → l < a + n → has_line (range_with_len a n) l ≡ true
has-range a zero l h k = absurd (omega arith)
has-range a (suc n) l h k =
    elim (cases_eq a l) [
      | inl e ↦ rw (eq-eqb a l e) refl
      | inr ne ↦ (let apart : a ≡ l → ⊥ = ne in rw (ne_eqb a l ne) (has-range (a + 1) n l (omega arith) (omega arith)))
    ]

both_of : (a b q : Bool) → ((a && q) || (b && q)) ≡ ((a || b) && q)
both_of true true true = refl
both_of true false true = refl
both_of true true false = refl
both_of true false false = refl
both_of false b q = refl

-- a number that is kept, or left out
first_of : (x line : ℕ) (p : ℕ → Bool) (rest : Bool) → cond (p x) (eqb x line || rest) rest ≡ ((eqb x line && p line) || rest)
first_of x line p rest =
    elim (cases_eq x line) [
      | inl e ↦ elim (cases_Bool (p x)) [
        | inl yes' ↦ rw (yes', eq-eqb x line e, sym (ap p e) ∙ yes') refl
        | inr no' ↦ rw (no', eq-eqb x line e, sym (ap p e) ∙ no') refl
      ]
      | inr ne ↦ elim (cases_Bool (p x)) [
        | inl yes' ↦ rw (yes', ne_eqb x line ne) refl
        | inr no' ↦ rw (no', ne_eqb x line ne) refl
      ]
    ]

has-cond : (b : Bool) (x : ℕ) (xs : List ℕ) (line : ℕ) → has_line (cond b (x ∷ xs) xs) line ≡ cond b (eqb x line || has_line xs line) (has_line xs line)
has-cond true x xs line = refl
has-cond false x xs line = refl

has-filter : (p : ℕ → Bool) (xs : List ℕ) (line : ℕ) → has_line (filter p xs) line ≡ (has_line xs line && p line)
has-filter p [] line = refl
has-filter p (x ∷ xs) line =
    has-cond (p x) x (filter p xs) line
    ∙ (first_of x line p (has_line (filter p xs) line)
    ∙ (ap (λ (b : Bool). (eqb x line && p line) || b) (has-filter p xs line) ∙ both_of (eqb x line) (has_line xs line) (p line)))

le_from_has : (n : ℕ) (xs : List ℕ) (l : ℕ) → All (λ x. x ≤ n) xs → has_line xs l ≡ true → l ≤ n
le_from_has n [] l h e = absurd (false≢true e)
le_from_has n (x ∷ xs) l h e =
    elim (cases_eq x l) [
      | inl same ↦ (let first : x ≤ n = All-head (λ x. x ≤ n) x xs h in omega arith)
      | inr ne ↦ le_from_has n xs l (All-tail (λ x. x ≤ n) x xs h) (rw (ne_eqb x l ne) at e)
    ]

later : (a b : Bool) → b ≡ true → (a || b) ≡ true
later true b h = refl
later false b h = h

le_all : (n : ℕ) (xs : List ℕ) → ((l : ℕ) → has_line xs l ≡ true → l ≤ n) → All (λ x. x ≤ n) xs
le_all n [] h = All-nil (λ x. x ≤ n)
le_all n (x ∷ xs) h =
    All-cons (λ x. x ≤ n) x xs (h x (rw (eq-eqb x x refl) refl)) (le_all n xs (λ l has. h l (later (eqb x l) (has_line xs l) has)))

pub members_within : (set : PlatformSet) → All (λ platform. platform ≤ 32) (members set)
members_within set = le_all 32 (members set) (λ l has. elim (cases_lt 32 l) [ inl beyond ↦ absurd (false≢true (sym (outside set l (λ h. (let le : l ≤ 32 = h.1 in omega arith))) ∙ has)) | inr le ↦ le ])

anded_true : (b : Bool) → b ≡ (true && b)
anded_true true = refl
anded_true false = refl

anded_false : (a : Bool) → false ≡ (a && false)
anded_false true = refl
anded_false false = refl

held_once : (set : PlatformSet) (n l : ℕ) → All (λ platform. platform ≤ n) (members set) → has_line (members set) l ≡ (has_line (range_with_len 1 n) l && has_line (members set) l)
held_once set n l all =
    elim (cases_Bool (has_line (members set) l)) [
      | inl yes' ↦ (
          let le : l ≤ n = le_from_has n (members set) l all yes' in
          let some : 0 < l = elim (cases_lt 0 l) [ inl lt ↦ lt | inr z ↦ absurd (false≢true (sym (outside set l (λ h. (let lt : 0 < l = h.0 in omega arith))) ∙ yes')) ] in
          anded_true (has_line (members set) l) ∙ ap (λ (b : Bool). b && has_line (members set) l) (sym (has-range 1 n l (omega arith) (omega arith)))
          )
      | inr no' ↦ no' ∙ (anded_false (has_line (range_with_len 1 n) l) ∙ ap (λ (b : Bool). has_line (range_with_len 1 n) l && b) (sym no'))
    ]

pub members_listed : ((x y : List ℕ) → IsStrictlyIncreasing x → IsStrictlyIncreasing y → ((l : ℕ) → has_line x l ≡ has_line y l) → x ≡ y)
    → (set : PlatformSet) (n : ℕ) → All (λ platform. platform ≤ n) (members set) → members set ≡ filter (has_line (members set)) (range_with_len 1 n)
members_listed one set n all =
    one (members set) (filter (has_line (members set)) (range_with_len 1 n)) (members_rise set)
    (IsStrictlyIncreasing-filter (has_line (members set)) (range_with_len 1 n) (increasing_from_rising 1 (range_with_len 1 n) (Rising-range 1 n)))
    (λ l. held_once set n l all ∙ sym (has-filter (has_line (members set)) (range_with_len 1 n) l))
