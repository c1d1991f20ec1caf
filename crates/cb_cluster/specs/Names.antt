-- Clusters of platforms, as a list with a name for each platform: the least member of its cluster.
use Rattle.std.specs.Prelude.{ℕ, ◌-◌, ◌==◌, if◌then◌else◌, List, map, filter, length, slice_index, min, max}
use Rattle.std.specs.List.{range_with_len}
use Rattle.cb_cluster.specs.declared.link.Link.{Link}

-- each platform is a cluster by itself (own)
abbrev pub singles : ℕ → List ℕ
singles count = range_with_len 1 count

-- the name of a platform's cluster (own)
abbrev pub name_of : List ℕ → ℕ → ℕ
name_of names platform = slice_index names (platform - 1)

-- the members of a cluster, rising (own)
abbrev pub members : List ℕ → ℕ → List ℕ
members names cluster = filter (λ platform. name_of names platform == cluster) (range_with_len 1 (length names))

-- all clusters, by their least members (own)
abbrev pub clusters_of : List ℕ → List (List ℕ)
clusters_of names =
    map (members names) (filter (λ platform. name_of names platform == platform) (range_with_len 1 (length names)))

-- the second cluster is joined to the first (own)
abbrev pub joined : List ℕ → ℕ → ℕ → List ℕ
joined names left right = map (λ name. if name == right then left else name) names

-- the two clusters that a link stands between, the one with the lesser least member first (own)
abbrev pub left_name : List ℕ → Link → ℕ
left_name names link = min (name_of names link.left) (name_of names link.right)

-- the other one of the two (own)
abbrev pub right_name : List ℕ → Link → ℕ
right_name names link = max (name_of names link.left) (name_of names link.right)
