-- Paths in the order in which they are first seen.
use Rattle.std.specs.Prelude.{ℕ, if◌then◌else◌, Bool, List, [], ◌∷◌, ◌++◌, bytes_eq}
use Rattle.std.specs.List.{list_any}

-- one of the paths (own)
abbrev pub has_path : List (List ℕ) → List ℕ → Bool
has_path paths path = list_any (bytes_eq path) paths

-- paths with one at their end, unless it is there already (own)
abbrev pub with_path : List (List ℕ) → List ℕ → List (List ℕ)
with_path paths path = if has_path paths path then paths else paths ++ path ∷ []

-- paths with others behind them in their order, each once (own)
abbrev pub with_paths : List (List ℕ) → List (List ℕ) → List (List ℕ)
with_paths paths [] = paths
with_paths paths (p ∷ ps) = with_paths (with_path paths p) ps

-- paths up to the first that passes a test, or all where none does (own)
abbrev pub up_to : (List ℕ → Bool) → List (List ℕ) → List (List ℕ)
up_to test [] = []
up_to test (p ∷ ps) = if test p then p ∷ [] else p ∷ up_to test ps
