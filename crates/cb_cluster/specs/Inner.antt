-- The order in which links are taken. No public clause names these words.
use Rattle.std.specs.Prelude.{ℕ, ◌==◌, ◌||◌, ◌&&◌, Bool, not, nat_lt, if◌then◌else◌, List}
use Rattle.cb_diverge.specs.Distances.{is_less}
use Rattle.cb_cluster.specs.declared.link.Link.{Link}
use Rattle.cb_cluster.specs.Names.{left_name, right_name}

-- by one test, and where it has no say by another one (own)
abbrev pub then_by : (Link → Link → Bool) → (Link → Link → Bool) → Link → Link → Bool
then_by first second a b = first a b || (not (first b a) && second a b)

-- 0 for a link between two clusters, and 1 for one within a cluster (own)
abbrev pub within_rank : List ℕ → Link → ℕ
within_rank names l = if left_name names l == right_name names l then 1 else 0

-- links between two clusters first (own)
abbrev pub by_rank : List ℕ → Link → Link → Bool
by_rank names a b = nat_lt (within_rank names a) (within_rank names b)

-- closer links first (own)
abbrev pub by_distance : Link → Link → Bool
by_distance a b = is_less a.distance b.distance

-- links with the lesser name of the left cluster first (own)
abbrev pub by_left : List ℕ → Link → Link → Bool
by_left names a b = nat_lt (left_name names a) (left_name names b)

-- links with the lesser name of the right cluster first (own)
abbrev pub by_right : List ℕ → Link → Link → Bool
by_right names a b = nat_lt (right_name names a) (right_name names b)

-- the whole order (own)
unfoldable pub precedes : List ℕ → Link → Link → Bool
precedes names = then_by (by_rank names) (then_by by_distance (then_by (by_left names) (by_right names)))
