-- Runs of bytes that pass a test.
use Rattle.std.proofs.Common.{◌≡◌, ℕ, suc, zero, ◌+◌, ◌≤◌, Bool, true, false, List, [], ◌∷◌, length, take, one-add, sym, refl, ◌∙◌, subst, arith, ⊎_elim}
use Rattle.std.specs.List.{list_all, prefix_len}
use Rattle.std.proofs.lemmas.Bool.{and_parts, and_from, cases_Bool, cond-true, cond-false}
use Rattle.cb_tokens.specs.Cut.{NoneLonger}

-- one more, where the first passes
pub prefix_yes : (p : ℕ → Bool) (x : ℕ) (xs : List ℕ) → p x ≡ true → prefix_len p (x ∷ xs) ≡ suc (prefix_len p xs)
prefix_yes p x xs h = cond-true (p x) (1 + prefix_len p xs) 0 h ∙ one-add (prefix_len p xs)

prefix_no : (p : ℕ → Bool) (x : ℕ) (xs : List ℕ) → p x ≡ false → prefix_len p (x ∷ xs) ≡ 0
prefix_no p x xs h = cond-false (p x) (1 + prefix_len p xs) 0 h

pub all_prefix : (p : ℕ → Bool) (xs : List ℕ) → list_all p (take (prefix_len p xs) xs) ≡ true
all_prefix p [] = refl
all_prefix p (x ∷ xs) =
    ⊎_elim
    (λ h. subst (λ k. list_all p (take k (x ∷ xs)) ≡ true) (sym (prefix_yes p x xs h)) (and_from (p x) (list_all p (take (prefix_len p xs) xs)) h (all_prefix p xs)))
    (λ h. subst (λ k. list_all p (take k (x ∷ xs)) ≡ true) (sym (prefix_no p x xs h)) refl)
    (cases_Bool (p x))

pub prefix_most : (p : ℕ → Bool) (xs : List ℕ) → NoneLonger (list_all p) xs (prefix_len p xs)
prefix_most p xs zero le h = omega arith
prefix_most p [] (suc m) le h = omega arith
prefix_most p (x ∷ xs) (suc m) le h =
    let parts = and_parts (p x) (list_all p (take m xs)) h in
    let more : m ≤ prefix_len p xs = prefix_most p xs m (omega arith) parts.1 in
    omega (arith, prefix_yes p x xs parts.0)

pub prefix_within : (p : ℕ → Bool) (xs : List ℕ) → prefix_len p xs ≤ length xs
prefix_within p [] = omega arith
prefix_within p (x ∷ xs) =
    ⊎_elim (λ h. omega (arith, prefix_yes p x xs h, prefix_within p xs)) (λ h. omega (arith, prefix_no p x xs h)) (cases_Bool (p x))
