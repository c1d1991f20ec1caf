-- Efficiency and performance portability (after Pennycook, Sewall and Lee; the grid is own).
use Rattle.std.specs.Prelude.{ℕ, ◌*◌, ◌/◌, ◌^◌, ◌==◌, ◌&&◌, ◌||◌, min, if◌then◌else◌, List, map, filter, length, sum_by, Bool, Option, Some, None}
use Rattle.std.specs.List.{fold, list_any}
use Rattle.std.specs.Str.{bytes_eq}
use Rattle.cb_paths.specs.Grid.{units}
use Rattle.cb_measure.specs.Names.{names_of}
use Rattle.cb_measure.specs.declared.row.Row.{Row}

-- the row is of this problem (own)
abbrev pub of_problem : List ℕ → Row → Bool
of_problem problem row = bytes_eq row.problem problem

-- the row is of this problem on this platform (own)
abbrev pub of_place : List ℕ → List ℕ → Row → Bool
of_place problem platform row = bytes_eq row.problem problem && bytes_eq row.platform platform

-- the row is a run of this application for this problem on this platform (own)
abbrev pub of_run : List ℕ → List ℕ → List ℕ → Row → Bool
of_run problem application platform row = of_place problem platform row && bytes_eq row.application application

-- the lesser of two figures, where 0 is no figure but a failed run (own)
abbrev pub better : ℕ → ℕ → ℕ
better x y = if x == 0 then y else if y == 0 then x else min x y

-- the least positive figure of rows, or 0 where none is positive (own)
unfoldable pub least : List Row → ℕ
least rows = fold (λ x (row : Row). better x row.fom) 0 rows

-- the problems of rows, rising by their bytes (own)
unfoldable pub problems_of : List Row → List (List ℕ)
problems_of rows = names_of (map (λ (row : Row). row.problem) rows)

-- the applications that occur in a row of a problem, rising by their bytes (own)
unfoldable pub applications_of : List Row → List ℕ → List (List ℕ)
applications_of rows problem = names_of (map (λ (row : Row). row.application) (filter (of_problem problem) rows))

-- the platforms that occur in a row of a problem, rising by their bytes (own)
unfoldable pub platforms_of : List Row → List ℕ → List (List ℕ)
platforms_of rows problem = names_of (map (λ (row : Row). row.platform) (filter (of_problem problem) rows))

-- the figure of an application for a problem on a platform: its least positive one, or 0 where it fails there (own)
unfoldable pub figure_on : List Row → List ℕ → List ℕ → List ℕ → ℕ
figure_on rows problem application platform = least (filter (of_run problem application platform) rows)

-- the best figure of all applications for a problem on a platform, or 0 where all fail (own)
unfoldable pub best_on : List Row → List ℕ → List ℕ → ℕ
best_on rows problem platform = least (filter (of_place problem platform) rows)

-- the efficiency of an application on a platform, where it does not fail there: the best figure over its own, on the grid
-- (Pennycook, Sewall and Lee; the grid is own)
unfoldable pub efficiency_of : List Row → List ℕ → List ℕ → List ℕ → Option ℕ
efficiency_of rows problem application platform =
    if figure_on rows problem application platform == 0 then None
    else Some (best_on rows problem platform * units / figure_on rows problem application platform)

-- how many times longer than the best an application takes on a platform, on the grid (own)
unfoldable pub slowness : List Row → List ℕ → List ℕ → List ℕ → ℕ
slowness rows problem application platform = figure_on rows problem application platform * units / best_on rows problem platform

-- an application fails on some of these platforms (own)
unfoldable pub fails_on : List Row → List ℕ → List ℕ → List (List ℕ) → Bool
fails_on rows problem application platforms = list_any (λ platform. figure_on rows problem application platform == 0) platforms

-- the portability over platforms: how many there are over the sum of the reciprocal efficiencies, on the grid; it is 0 where the
-- application fails on one of them, and for no platform (Pennycook, Sewall and Lee)
unfoldable pub portability_over : List Row → List ℕ → List ℕ → List (List ℕ) → ℕ
portability_over rows problem application platforms =
    if fails_on rows problem application platforms || (length platforms == 0) then 0
    else length platforms * 10 ^ 24 / sum_by (slowness rows problem application) platforms

-- the portability of an application for a problem (Pennycook, Sewall and Lee)
abbrev pub portability_of : List Row → List ℕ → List ℕ → ℕ
portability_of rows problem application = portability_over rows problem application (platforms_of rows problem)
