-- Texts that are split at a byte.
use Rattle.std.proofs.Common.{◌≡◌, ℕ, zero, suc, ◌<◌, ◌≤◌, ◌==◌, not, Bool, true, false, List, [], ◌∷◌, ◌++◌, length, take, refl, sym, arith, IfSome, IfNone, Option, Some, None}
use Rattle.std.specs.Prelude.{slice_index}
use Rattle.std.specs.Borrow.{Bor}
use Rattle.std.specs.Option.{option_map_or}
use Rattle.std.specs.List.{list_all, filter, slice_split}
use Rattle.std.proofs.lemmas.Bool.Decides.{nat_tests}
use Rattle.std.proofs.lemmas.Grind.{common_steps}
use Rattle.std.proofs.lemmas.List.Elements.{filter-append}
use Rattle.cb_paths.specs.Parts.{is_kept, parts_of}
use Rattle.cb_paths.proofs.Normal.{up-head, up-tail}

-- no byte of the list is c
abbrev pub lacks : ℕ → List ℕ → Bool
lacks c xs = list_all (λ b. not (b == c)) xs

not-true : (b : Bool) → not b ≡ true → b ≡ false
not-true true h = cc
not-true false h = refl

head_differs : (c x : ℕ) (xs : List ℕ) → lacks c (x ∷ xs) ≡ true → (x == c) ≡ false
head_differs c x xs h = not-true (x == c) (up-head (not (x == c)) _ h)

same_byte : (c : ℕ) → (c == c) ≡ true
same_byte c = grind (arith, nat_tests)

pub split_none : (c : ℕ) (xs : List ℕ) → lacks c xs ≡ true → slice_split (λ b. b == c) xs ≡ xs ∷ []
split_none c [] h = refl
split_none c (x ∷ xs) h = rw (head_differs c x xs h, split_none c xs (up-tail (not (x == c)) _ h)) refl

pub split_at : (c : ℕ) (xs ys : List ℕ) → lacks c xs ≡ true → slice_split (λ b. b == c) (xs ++ (c ∷ ys)) ≡ xs ∷ slice_split (λ b. b == c) ys
split_at c [] ys h = rw (same_byte c) refl
split_at c (x ∷ xs) ys h = rw (head_differs c x xs h, split_at c xs ys (up-tail (not (x == c)) _ h)) refl

lacks_step : (c n x : ℕ) (xs : List ℕ) (t : Bool) → (x == c) ≡ t → ((x == c) ≡ true → ⊥) → lacks c (take n xs) ≡ true → lacks c (x ∷ take n xs) ≡ true
lacks_step c n x xs true e h k = absurd (h e)
lacks_step c n x xs false e h k = rw (e, k) refl

-- the bytes before a place at which none is c
pub lacks-take : (c n : ℕ) (xs : List ℕ) → n ≤ length xs → ((k : ℕ) → 0 ≤ k → k < n → (slice_index xs k == c) ≡ true → ⊥) → lacks c (take n xs) ≡ true
lacks-take c n [] h none' = grind (arith, common_steps)
lacks-take c zero (x ∷ xs) h none' = refl
lacks-take c (suc n) (x ∷ xs) h none' =
    lacks_step c n x xs (x == c) refl (none' 0 (omega arith) (omega arith)) (lacks-take c n xs (omega arith) (λ k low lt e. none' (suc k) (omega arith) (omega arith) e))

-- the parts of what a cut has left, if anything
abbrev pub parts_left : Option (Bor (List ℕ)) → List (List ℕ)
parts_left rest = option_map_or (λ text. parts_of text.now) rest []

nil_behind : (ps : List (List ℕ)) → ps ++ [] ≡ ps
nil_behind ps = grind (arith, common_steps)

-- a cut takes the first part off
pub parts_cut : (text part : List ℕ) (rest : Option (Bor (List ℕ))) → lacks 47 part ≡ true
    → IfSome rest (λ r. text ≡ part ++ (47 ∷ r.now)) → IfNone rest (text ≡ part)
    → parts_of text ≡ filter is_kept (part ∷ []) ++ parts_left rest
parts_cut text part None h s n = rw (n, split_none 47 part h) (sym (nil_behind (filter is_kept (part ∷ []))))
parts_cut text part (Some r) h s n = rw (s, split_at 47 part r.now h) (filter-append is_kept (part ∷ []) (slice_split (λ b. b == 47) r.now))
