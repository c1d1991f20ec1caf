-- The report of the lines that platforms share, of coverage and of divergence.
use Rattle.std.specs.Prelude.{ℕ, ◌-◌, nat_lt, ◌&&◌, Bool, if◌then◌else◌, List, [], ◌∷◌, ◌++◌, length, codes, decimal}
use Rattle.std.specs.List.{flat_map}
use Rattle.cb_paths.specs.Grid.{units, share}
use Rattle.cb_diverge.specs.declared.fraction.Fraction.{Fraction}
use Rattle.cb_diverge.specs.Distances.{divergence_of}
use Rattle.cb_sets.specs.Tallies.{SetLines, Tally, lines_where, is_any, coverage_of, average_of}
use Rattle.cb_reports.specs.Words.{line, set_text, numbered}
use Rattle.cb_reports.specs.Places.{four_places, percent}

-- a platform with its number (own)
abbrev pub platform_line : ℕ → List ℕ → List ℕ
platform_line number name = line (decimal number ++ codes " " ++ name)

-- a set with a line, its lines, and their share in all lines (own)
abbrev pub set_line : List (List ℕ) → ℕ → SetLines → List ℕ
set_line names total row =
    line (set_text names row.members ++ codes " " ++ decimal row.lines ++ codes " " ++ percent (share row.lines total))

-- a figure, where there is one (own)
abbrev pub figure : Bool → List ℕ → List ℕ
figure is_there text = if is_there then text else codes "n/a"

-- all lines (own)
abbrev pub total_of : Tally → ℕ
total_of map = lines_where is_any map.rows

-- coverage; there is none without a line (own)
unfoldable pub coverage_text : Tally → List ℕ
coverage_text map = figure (nat_lt 0 (total_of map)) (percent (coverage_of map))

-- average coverage; there is none without a line or without a platform (own)
unfoldable pub average_text : Tally → List ℕ
average_text map = figure (nat_lt 0 (total_of map) && nat_lt 0 map.platforms) (percent (average_of map))

-- divergence; there is none without a pair of platforms (own)
unfoldable pub divergence_text : List Fraction → List ℕ
divergence_text [] = codes "n/a"
divergence_text (p ∷ ps) = four_places (divergence_of (p ∷ ps))

-- what divergence leaves to one (own)
unfoldable pub convergence_text : List Fraction → List ℕ
convergence_text [] = codes "n/a"
convergence_text (p ∷ ps) = four_places (units - divergence_of (p ∷ ps))

-- the sets with a line, below the number of all lines (own)
abbrev pub sets_text : List (List ℕ) → Tally → List ℕ
sets_text names map = line (codes "lines " ++ decimal (total_of map)) ++ flat_map (set_line names (total_of map)) map.rows

-- coverage and average coverage (own)
abbrev pub coverages_text : Tally → List ℕ
coverages_text map = line (codes "coverage " ++ coverage_text map) ++ line (codes "average coverage " ++ average_text map)

-- the line of divergence (own)
abbrev pub divergence_line : List Fraction → List ℕ
divergence_line pairs = line (codes "divergence " ++ divergence_text pairs)

-- the line of convergence (own)
abbrev pub convergence_line : List Fraction → List ℕ
convergence_line pairs = line (codes "convergence " ++ convergence_text pairs)

-- the whole report (own)
abbrev pub summary_text : List (List ℕ) → Tally → List Fraction → List ℕ
summary_text names map pairs =
    line (codes "platforms " ++ decimal (length names)) ++ numbered platform_line 1 names ++ sets_text names map
    ++ coverages_text map ++ divergence_line pairs ++ convergence_line pairs
