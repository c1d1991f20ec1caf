-- The distances of all pairs of platforms.
use Rattle.std.specs.Prelude.{◌≡◌, ℕ, ◌+◌, ◌-◌, ◌<◌, ◌≤◌, List, [], ◌∷◌, map, length, slice_index_or}
use Rattle.std.specs.List.{flat_map, range_with_len}
use Rattle.cb_diverge.specs.declared.fraction.Fraction.{Fraction}
use Rattle.cb_cluster.specs.declared.link.Link.{Link}

-- the pairs of a platform with each later one (own)
abbrev pub pairs_with : ℕ → ℕ → List (ℕ × ℕ)
pairs_with count left = map (λ right. (left, right)) (range_with_len (left + 1) (count - left))

-- all pairs of so many platforms, in the order (1, 2), (1, 3), .., (2, 3), .. (own)
abbrev pub pairs_of : ℕ → List (ℕ × ℕ)
pairs_of count = flat_map (pairs_with count) (range_with_len 1 count)

-- each pair with its distance (own)
abbrev pub linked : List (ℕ × ℕ) → List Fraction → List Link
linked [] ds = []
linked (p ∷ ps) [] = []
linked (p ∷ ps) (d ∷ ds) = record { left = p.0; right = p.1; distance = d } ∷ linked ps ds

-- all pairs of so many platforms with their distances (own)
abbrev pub links_of : ℕ → List Fraction → List Link
links_of count distances = linked (pairs_of count) distances

-- a pair of so many platforms, the lesser one first (own)
abbrev pub IsPair : ℕ → Link → Type 0
IsPair count link = (0 < link.left) × (link.left < link.right) × (link.right ≤ count)

-- the link stands at this place (own)
abbrev pub IsAt : List Link → ℕ → Link → Type 0
IsAt links at link = (at < length links) × (slice_index_or links at link ≡ link)
