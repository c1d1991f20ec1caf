-- The different names of a list, rising by their bytes (own).
use Rattle.std.specs.Prelude.{ℕ, List, []}
use Rattle.std.specs.List.{fold}
use Rattle.std.specs.Ordering.{nat_cmp}
use Rattle.std.specs.Cmp.Lexicographic.{slice_cmp}
use Rattle.std.specs.BTreeSet.{insert_key}

-- each name is put in its place, where it does not stand there already (own)
unfoldable pub names_of : List (List ℕ) → List (List ℕ)
names_of names = fold (insert_key (slice_cmp nat_cmp)) [] names
