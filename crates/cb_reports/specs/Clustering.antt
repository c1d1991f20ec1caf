-- The report of distances, merges and classes.
use Rattle.std.specs.Prelude.{◌≡◌, ℕ, nat_lt, if◌then◌else◌, List, [], ◌∷◌, ◌++◌, length, codes, decimal, MatchBool}
use Rattle.std.specs.List.{flat_map}
use Rattle.cb_diverge.specs.declared.fraction.Fraction.{Fraction}
use Rattle.cb_diverge.specs.Distances.{grid_of, is_less}
use Rattle.cb_cluster.specs.declared.link.Link.{Link}
use Rattle.cb_cluster.specs.declared.merge.Merge.{Merge}
use Rattle.cb_cluster.specs.Links.{links_of}
use Rattle.cb_cluster.specs.Names.{singles, clusters_of}
use Rattle.cb_cluster.specs.Merging.{AreMerges, names_after}
use Rattle.cb_reports.specs.Words.{line, numbered, platform_name, set_text}
use Rattle.cb_reports.specs.Places.{four_places}

-- two platforms with their distance (own)
abbrev pub distance_line : List (List ℕ) → Link → List ℕ
distance_line names l =
    line (codes "distance " ++ platform_name names l.left ++ codes " " ++ platform_name names l.right ++ codes " " ++ four_places (grid_of l.distance))

-- a merge with its number (own)
abbrev pub merge_line : List (List ℕ) → ℕ → Merge → List ℕ
merge_line names number m =
    line (codes "merge " ++ decimal number ++ codes " " ++ set_text names m.left ++ codes " " ++ set_text names m.right ++ codes " "
    ++ four_places (grid_of m.height))

-- a set behind a space (own)
abbrev pub spaced_set : List (List ℕ) → List ℕ → List ℕ
spaced_set names members = codes " " ++ set_text names members

-- a height, with classes (own)
abbrev pub height_line : List (List ℕ) → Fraction → List (List ℕ) → List ℕ
height_line names height classes = line (codes "cut " ++ four_places (grid_of height) ++ flat_map (spaced_set names) classes)

-- a height, with the classes that stand after the merges up to it (own)
abbrev pub cut_line : List (List ℕ) → List Merge → Fraction → List ℕ
cut_line names ms height = height_line names height (clusters_of (names_after height (singles (length names)) ms))

-- the different heights of merges that are greater than a height; equal ones stand side by side (own)
abbrev pub heights_above : Fraction → List Merge → List Fraction
heights_above height [] = []
heights_above height (m ∷ ms) = if is_less height m.height then m.height ∷ heights_above m.height ms else heights_above height ms

-- the different heights of merges (own)
abbrev pub heights_of : List Merge → List Fraction
heights_of [] = []
heights_of (m ∷ ms) = m.height ∷ heights_above m.height ms

-- the report of two platforms or more, from their merges (own)
abbrev pub clusters_text : List (List ℕ) → List Fraction → List Merge → List ℕ
clusters_text names pairs ms =
    flat_map (distance_line names) (links_of (length names) pairs) ++ numbered (merge_line names) 1 ms ++ flat_map (cut_line names ms) (heights_of ms)

-- the whole report; for fewer than two platforms there is nothing to tell (own)
abbrev pub IsClusteringText : List (List ℕ) → List Fraction → List ℕ → Type 0
IsClusteringText names pairs text =
    MatchBool (nat_lt (length names) 2) (text ≡ line (codes "clustering n/a"))
    ((ms : List Merge) × AreMerges (links_of (length names) pairs) (singles (length names)) ms × (text ≡ clusters_text names pairs ms))
