-- How the splitting of a command goes on.
use Rattle.std.specs.Prelude.{◌≡◌, ℕ, true, List, [], ◌∷◌, ◌++◌, map, Option, Some, None}
use Rattle.std.specs.List.{list_all, flat_map}
use Rattle.cb_compdb.specs.Pieces.{Inner, Piece, Reads, given, inner_byte, inner_spelling, is_inner, joined}

-- the words that have ended, and the word that has begun, if one has
pub record Progress : Type 0 where
  pub done : List (List ℕ)
  pub word : Option (List ℕ)

-- no word
abbrev pub start : Progress
start = record { done = []; word = None }

-- the words where pieces that give this come behind
abbrev pub words_behind : Progress → List (Option (List ℕ)) → List (List ℕ)
words_behind progress gives = progress.done ++ joined progress.word gives

-- pieces lead from a text to what is left of it, and from one progress to another
abbrev pub Leads : List ℕ → Progress → List ℕ → Progress → Type 0
Leads bytes old left new =
    (pieces : List Piece) × Reads bytes pieces left
    × ((gives : List (Option (List ℕ))) → words_behind old (map given pieces ++ gives) ≡ words_behind new gives)

-- bytes between double quotes lead from a text to what is left of it, and from one progress to another
abbrev pub LeadsInside : List ℕ → Progress → List ℕ → Progress → Type 0
LeadsInside bytes old left new =
    (inners : List Inner) × (list_all is_inner inners ≡ true) × (bytes ≡ flat_map inner_spelling inners ++ left)
    × ((gives : List (Option (List ℕ)))
    → words_behind old (Some (map inner_byte inners) ∷ gives) ≡ words_behind new gives)
