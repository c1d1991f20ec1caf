-- The report of sources with equal bytes.
use Rattle.std.specs.Prelude.{ℕ, List, [], ◌∷◌, ◌++◌, codes, decimal}
use Rattle.std.specs.List.{flat_map}
use Rattle.cb_reports.specs.Words.{line, numbered}

-- a source of a group (own)
abbrev pub path_line : List ℕ → List ℕ
path_line path = line (codes "  " ++ path)

-- a group with its number (own)
abbrev pub group_text : ℕ → List (List ℕ) → List ℕ
group_text number paths = line (codes "group " ++ decimal number) ++ flat_map path_line paths

-- the whole report (own)
abbrev pub duplicates_text : List (List (List ℕ)) → List ℕ
duplicates_text [] = line (codes "duplicates none")
duplicates_text (g ∷ gs) = numbered group_text 1 (g ∷ gs)
