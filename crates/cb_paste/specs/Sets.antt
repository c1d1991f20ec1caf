-- Hide sets: sets of the places of macros, in one arena.
use Rattle.std.specs.Prelude.{◌≡◌, ℕ, zero, suc, ◌==◌, Bool, List, [], ◌++◌}
use Rattle.std.specs.List.{list_any, slice_index_or}

-- the set of a number: 0 is the empty one, and the arena's count from 1 (own)
abbrev pub set_at : List (List ℕ) → ℕ → List ℕ
set_at sets zero = []
set_at sets (suc i) = slice_index_or sets i []

-- whether a set has a place (Prosser's algorithm, in which a token carries the set of the macros that it does not name)
unfoldable pub hides : List (List ℕ) → ℕ → ℕ → Bool
hides sets set place = list_any (λ p. place == p) (set_at sets set)

-- an arena has all sets of an older one, at the same numbers (own)
pub record Extends (old new : List (List ℕ)) : Type 0 where
  pub more : List (List ℕ)
  pub is : new ≡ old ++ more
