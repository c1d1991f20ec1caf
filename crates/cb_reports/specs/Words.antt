-- Lines, lists of names, and sets of platforms as text.
use Rattle.std.specs.Prelude.{ℕ, ◌+◌, ◌-◌, List, [], ◌∷◌, ◌++◌, codes, map, slice_index_or}
use Rattle.std.specs.List.{flat_map}

-- a line: its text, and LF (own)
abbrev pub line : List ℕ → List ℕ
line text = text ++ 10 ∷ []

-- texts joined by a comma and a space (own)
abbrev pub listed : List (List ℕ) → List ℕ
listed [] = []
listed (t ∷ ts) = t ++ flat_map (λ u. codes ", " ++ u) ts

-- the name of a platform, by its number from 1 (own)
abbrev pub platform_name : List (List ℕ) → ℕ → List ℕ
platform_name names platform = slice_index_or names (platform - 1) []

-- a set of platforms: their names in braces (own)
abbrev pub set_text : List (List ℕ) → List ℕ → List ℕ
set_text names members = codes "{" ++ listed (map (platform_name names) members) ++ codes "}"

-- a text for each item, with its number (own)
abbrev pub numbered : {A : Type 0} → (ℕ → A → List ℕ) → ℕ → List A → List ℕ
numbered f number [] = []
numbered f number (x ∷ xs) = f number x ++ numbered f (number + 1) xs
