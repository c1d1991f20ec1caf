-- Texts that are cut and split at a byte.
use Rattle.std.proofs.Common.{◌≡◌, ℕ, zero, suc, ◌<◌, ◌≤◌, ◌==◌, not, Bool, true, false, List, [], ◌∷◌, ◌++◌, length, take, refl, arith, IfSome, IfNone, Option, Some, None, cond}
use Rattle.std.specs.Prelude.{slice_index}
use Rattle.std.specs.Borrow.{Bor}
use Rattle.std.specs.List.{slice_split, onto_first}
use Rattle.std.proofs.lemmas.Bool.{not-true, and_parts}
use Rattle.std.proofs.lemmas.Bool.Decides.{nat_tests}
use Rattle.std.proofs.lemmas.Grind.{common_steps}
use Rattle.cb_analysis.specs.inner.Fronts.{has_no, IsCut}
use Rattle.cb_analysis.specs.Fits.{is_star, is_empty}
use Rattle.cb_analysis.specs.inner.Left.{parts_left}

-- no byte of the list is c
abbrev lacks : ℕ → List ℕ → Bool
lacks c xs = has_no (λ b. b == c) xs

lacks_step : (c n x : ℕ) (xs : List ℕ) (t : Bool) → (x == c) ≡ t → ((x == c) ≡ true → ⊥) → lacks c (take n xs) ≡ true → lacks c (x ∷ take n xs) ≡ true
lacks_step c n x xs true e h k = absurd (h e)
lacks_step c n x xs false e h k = rw (e, k) refl

-- the bytes before a place at which none is c
pub lacks-take : (c n : ℕ) (xs : List ℕ) → n ≤ length xs → ((k : ℕ) → 0 ≤ k → k < n → (slice_index xs k == c) ≡ true → ⊥) → lacks c (take n xs) ≡ true
lacks-take c n [] h none' = grind (arith, common_steps)
lacks-take c zero (x ∷ xs) h none' = refl
lacks-take c (suc n) (x ∷ xs) h none' =
    lacks_step c n x xs (x == c) refl (none' 0 (omega arith) (omega arith)) (lacks-take c n xs (omega arith) (λ k low lt e. none' (suc k) (omega arith) (omega arith) e))

same_byte : (c : ℕ) → (c == c) ≡ true
same_byte c = grind (arith, nat_tests)

split_none : (c : ℕ) (xs : List ℕ) → lacks c xs ≡ true → slice_split (λ b. b == c) xs ≡ xs ∷ []
split_none c [] h = refl
split_none c (x ∷ xs) h =
    let parts = and_parts (not (x == c)) (lacks c xs) h in
    rw (not-true (x == c) parts.0, split_none c xs parts.1) refl

split_at : (c : ℕ) (xs ys : List ℕ) → lacks c xs ≡ true → slice_split (λ b. b == c) (xs ++ c ∷ ys) ≡ xs ∷ slice_split (λ b. b == c) ys
split_at c [] ys h = rw (same_byte c) refl
split_at c (x ∷ xs) ys h =
    let parts = and_parts (not (x == c)) (lacks c xs) h in
    rw (not-true (x == c) parts.0, split_at c xs ys parts.1) refl

-- a cut at a slash takes the first part off
pub parts_cut : (text part : List ℕ) (rest : Option (Bor (List ℕ))) → lacks 47 part ≡ true
    → IfSome rest (λ r. text ≡ part ++ 47 ∷ r.now) → IfNone rest (text ≡ part)
    → slice_split (λ b. b == 47) text ≡ part ∷ parts_left rest
parts_cut text part None h s n = rw (n, split_none 47 part h) refl
parts_cut text part (Some r) h s n = rw (s, split_at 47 part r.now h) refl

-- a cut at a star
pub is_cut : (pattern front : List ℕ) (behind : Option (Bor (List ℕ))) → lacks 42 front ≡ true
    → IfSome behind (λ r. pattern ≡ front ++ 42 ∷ r.now) → IfNone behind (pattern ≡ front) → IsCut is_star pattern front behind
is_cut pattern front None h s n = record { plain = h; cut = n }
is_cut pattern front (Some rest) h s n = record { plain = h; cut = (42, refl, s) }

first_is_there : {X : Type 0} (x : X) (xs : List (List X)) → false ≡ is_empty (onto_first x xs)
first_is_there x [] = refl
first_is_there x (y ∷ ys) = refl

part_case : (x : ℕ) (xs : List ℕ) (b : Bool) → false ≡ is_empty (cond b ([] ∷ slice_split (λ b. b == 47) xs) (onto_first x (slice_split (λ b. b == 47) xs)))
part_case x xs true = refl
part_case x xs false = first_is_there x (slice_split (λ b. b == 47) xs)

-- a text has a part
pub split_some : (text : List ℕ) → false ≡ is_empty (slice_split (λ b. b == 47) text)
split_some [] = refl
split_some (x ∷ xs) = part_case x xs (x == 47)
