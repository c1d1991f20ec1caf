-- The reports of measurements.
use Rattle.std.specs.Prelude.{ℕ, ◌==◌, if◌then◌else◌, is_none, Bool, List, [], ◌∷◌, ◌++◌, filter, length, codes, decimal, Option, Some, None}
use Rattle.std.specs.List.{flat_map}
use Rattle.cb_diverge.specs.declared.fraction.Fraction.{Fraction}
use Rattle.cb_measure.specs.declared.row.Row.{Row}
use Rattle.cb_measure.specs.declared.step.Step.{Step}
use Rattle.cb_measure.specs.Metrics.{problems_of, applications_of, platforms_of, efficiency_of, portability_of}
use Rattle.cb_measure.specs.Cascade.{cascade_of}
use Rattle.cb_reports.specs.declared.run_report.RunReport.{RunReport}
use Rattle.cb_reports.specs.declared.run_report.RunReport.TheVariants.{Efficiency, Cascade, Portability, Navigation}
use Rattle.cb_reports.specs.Words.{line, listed, numbered}
use Rattle.cb_reports.specs.Places.{six_places}
use Rattle.cb_reports.specs.Summary.{convergence_text}

-- the report where there are no measurements (own)
abbrev pub none_line : List ℕ
none_line = line (codes "measurements none")

-- a problem and an application, each before a comma (own)
abbrev pub run_name : List ℕ → List ℕ → List ℕ
run_name problem application = problem ++ codes "," ++ application ++ codes ","

-- an efficiency; there is none where the application fails (own)
abbrev pub efficiency_text : Option ℕ → List ℕ
efficiency_text None = codes "0.000000 failed"
efficiency_text (Some value) = six_places value

-- an application for a problem on a platform (own)
abbrev pub efficiency_line : List Row → List ℕ → List ℕ → List ℕ → List ℕ
efficiency_line rows problem application platform =
    line (run_name problem application ++ platform ++ codes "," ++ efficiency_text (efficiency_of rows problem application platform))

-- a step of a cascade with its number (own)
abbrev pub step_line : List ℕ → List ℕ → ℕ → Step → List ℕ
step_line problem application number step =
    line (run_name problem application ++ decimal number ++ codes "," ++ step.platform ++ codes "," ++ six_places step.efficiency
    ++ codes "," ++ six_places step.portability)

-- an application fails on a platform (own)
abbrev pub is_failing : List Row → List ℕ → List ℕ → List ℕ → Bool
is_failing rows problem application platform = is_none (efficiency_of rows problem application platform)

-- where an application fails, if it does (own)
abbrev pub failing_text : List (List ℕ) → List ℕ
failing_text [] = []
failing_text (h ∷ hs) = codes " fails on " ++ listed (h ∷ hs)

-- the portability of an application, and where it fails (own)
abbrev pub portability_line : List Row → List ℕ → List ℕ → List ℕ
portability_line rows problem application =
    line (run_name problem application ++ six_places (portability_of rows problem application) ++ failing_text (filter (is_failing rows problem application) (platforms_of rows problem)))

-- the convergence of the code base beside the portability of an application (own)
abbrev pub navigation_line : List Fraction → List Row → List ℕ → List ℕ → List ℕ
navigation_line pairs rows problem application =
    line (run_name problem application ++ convergence_text pairs ++ codes "," ++ six_places (portability_of rows problem application))

-- what a report tells of an application for a problem (own)
abbrev pub run_text : RunReport → List Fraction → List Row → List ℕ → List ℕ → List ℕ
run_text Efficiency pairs rows problem application = flat_map (efficiency_line rows problem application) (platforms_of rows problem)
run_text Cascade pairs rows problem application = numbered (step_line problem application) 1 (cascade_of rows problem application)
run_text Portability pairs rows problem application = portability_line rows problem application
run_text Navigation pairs rows problem application = navigation_line pairs rows problem application

-- what a report tells of each application with a row of a problem (own)
abbrev pub problem_text : RunReport → List Fraction → List Row → List ℕ → List ℕ
problem_text report pairs rows problem = flat_map (run_text report pairs rows problem) (applications_of rows problem)

-- the report of rows (own)
abbrev pub rows_text : RunReport → List Fraction → List Row → List ℕ
rows_text report pairs rows =
    if length rows == 0 then none_line else flat_map (problem_text report pairs rows) (problems_of rows)

-- the whole report (own)
abbrev pub measurements_text : RunReport → List Fraction → Option (List Row) → List ℕ
measurements_text report pairs None = none_line
measurements_text report pairs (Some rows) = rows_text report pairs rows
