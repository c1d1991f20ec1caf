-- Which nodes of which files were reached (own).
use Rattle.std.specs.Prelude.{ℕ, ◌/◌, ◌%◌, ◌==◌, Bool, List, [], slice_index, slice_index_or}
use Rattle.std.specs.Int.{bit_at}
use Rattle.std.specs.List.{position_or_len}
use Rattle.std.specs.Str.{bytes_eq}

-- a set of nodes as words has a node: bit n % 64 of word n / 64 (own)
unfoldable pub has_bit : List ℕ → ℕ → Bool
has_bit words node = bit_at (slice_index words (node / 64)) (node % 64) == 1

-- the node of the file at a path is in its set, which stands at the place of the path among some paths; where the path
-- is not there, its place is behind them all, and no set stands there (own)
abbrev pub is_in : List (List ℕ) → List (List ℕ) → List ℕ → ℕ → Bool
is_in paths sets path node = has_bit (slice_index_or sets (position_or_len (bytes_eq path) paths) []) node
