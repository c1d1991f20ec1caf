-- Patterns against lists: the bytes of a pattern's part against those of a path's part, and a pattern's parts against
-- a path's.
use Rattle.std.specs.Prelude.{ℕ, ◌==◌, ◌&&◌, ◌||◌, if◌then◌else◌, Bool, true, false, List, [], ◌∷◌, bytes_eq, codes}
use Rattle.std.specs.List.{list_any}

-- what a list has left behind each number of its elements, the whole list first and the empty one last (own)
abbrev pub tails : {X : Type 0} → List X → List (List X)
tails [] = [] ∷ []
tails (x ∷ xs) = (x ∷ xs) ∷ tails xs

-- the first element passes a test, and what is behind it another one (own)
abbrev pub begins : {X : Type 0} → (X → Bool) → (List X → Bool) → List X → Bool
begins first behind [] = false
begins first behind (x ∷ xs) = first x && behind xs

-- the elements of a pattern, one after another, take the front of a list, and what they leave passes a test: a star
-- takes any number of elements, none included, and any other element takes one element that is its like (own)
abbrev pub fits : {P X : Type 0} → (P → Bool) → (P → X → Bool) → (List X → Bool) → List P → List X → Bool
fits star like left [] xs = left xs
fits star like left (p ∷ ps) xs =
    if star p then list_any (fits star like left ps) (tails xs) else begins (like p) (fits star like left ps) xs

-- nothing is left (own)
abbrev pub is_empty : {X : Type 0} → List X → Bool
is_empty [] = true
is_empty (x ∷ xs) = false

-- in a part a `*` takes any bytes (gitignore's manual, in which it stops at a slash)
abbrev pub is_star : ℕ → Bool
is_star byte = byte == 42

-- a `?` takes any one byte, and any other byte takes itself (gitignore's manual)
abbrev pub is_like : ℕ → ℕ → Bool
is_like byte other = (byte == 63) || (byte == other)

-- a part of a pattern fits a whole part of a path (gitignore's manual)
unfoldable pub part_fits : List ℕ → List ℕ → Bool
part_fits pattern part = fits is_star is_like is_empty pattern part

-- the part `**` takes any number of parts (gitignore's manual)
unfoldable pub is_any : List ℕ → Bool
is_any part = bytes_eq part (codes "**")
