-- Single linkage as joining: again and again the closest two clusters.
use Rattle.std.specs.Prelude.{◌≡◌, ℕ, ◌<◌, ◌||◌, ◌&&◌, Bool, true, false, not, nat_lt, if◌then◌else◌, List, [], ◌∷◌, All}
use Rattle.cb_diverge.specs.declared.fraction.Fraction.{Fraction}
use Rattle.cb_diverge.specs.Distances.{is_less}
use Rattle.cb_cluster.specs.declared.link.Link.{Link}
use Rattle.cb_cluster.specs.declared.merge.Merge.{Merge}
use Rattle.cb_cluster.specs.Links.{IsAt}
use Rattle.cb_cluster.specs.Names.{members, joined, left_name, right_name}

-- the link stands between the two clusters (own)
abbrev pub Joins : List ℕ → ℕ → ℕ → Link → Type 0
Joins names left right link = (left_name names link ≡ left) × (right_name names link ≡ right)

-- the distance of two clusters: the least distance of their members, and of equal least ones the first in the list (own)
pub record IsDistance (links : List Link) (names : List ℕ) (left right : ℕ) (distance : Fraction) : Type 0 where
  pub at : ℕ
  pub link : Link
  pub stands : IsAt links at link
  pub joins : Joins names left right link
  pub is : link.distance ≡ distance
  pub least : (k : ℕ) (l : Link) → IsAt links k l → Joins names left right l → is_less l.distance distance ≡ false
  pub first : (k : ℕ) (l : Link) → IsAt links k l → Joins names left right l → k < at → is_less distance l.distance ≡ true

-- two clusters at a distance come before two others: by distance, then by the left one, then by the right one (own)
abbrev pub comes_first : Fraction → ℕ → ℕ → Fraction → ℕ → ℕ → Bool
comes_first d left right e other_left other_right =
    is_less d e || (not (is_less e d) && (nat_lt left other_left || (not (nat_lt other_left left) && nat_lt right other_right)))

-- the two clusters, the one with the lesser least member first, are the first of all (own)
pub record AreClosest (links : List Link) (names : List ℕ) (left right : ℕ) (height : Fraction) : Type 0 where
  pub apart : left < right
  pub distance : IsDistance links names left right height
  pub least : (k : ℕ) (l : Link) → IsAt links k l → left_name names l < right_name names l
      → comes_first l.distance (left_name names l) (right_name names l) height left right ≡ false

-- each pair of platforms is within a cluster (own)
abbrev pub IsOneCluster : List Link → List ℕ → Type 0
IsOneCluster links names = (k : ℕ) (l : Link) → IsAt links k l → left_name names l ≡ right_name names l

-- a merge of two clusters (own)
abbrev pub IsMerge : List ℕ → ℕ → ℕ → Merge → Type 0
IsMerge names left right m = (m.left ≡ members names left) × (m.right ≡ members names right)

-- the merges of these clusters in order, until there is one (own)
abbrev pub AreMerges : List Link → List ℕ → List Merge → Type 0
AreMerges links names [] = IsOneCluster links names
AreMerges links names (m ∷ ms) =
    (left : ℕ) × (right : ℕ) × AreClosest links names left right m.height × IsMerge names left right m × AreMerges links (joined names left right) ms

-- the least member of the first cluster of a merge, and of any list of members; 0 for none (own)
abbrev pub least_of : List ℕ → ℕ
least_of [] = 0
least_of (p ∷ ps) = p

-- the clusters that stand after the merges of at most a height (own)
abbrev pub names_after : Fraction → List ℕ → List Merge → List ℕ
names_after height names [] = names
names_after height names (m ∷ ms) =
    if is_less height m.height
    then names_after height names ms
    else names_after height (joined names (least_of m.left) (least_of m.right)) ms

-- heights do not fall: none is less than an earlier one (own)
abbrev pub HeightsRise : List Merge → Type 0
HeightsRise [] = Unit {0}
HeightsRise (m ∷ ms) = All (λ (n : Merge). is_less n.height m.height ≡ false) ms × HeightsRise ms
