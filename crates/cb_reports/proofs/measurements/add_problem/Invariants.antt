use Rattle.std.proofs.Common.{◌≡◌, ◌++◌, take}
use Rattle.std.specs.List.{flat_map}
use Rattle.cb_reports.specs.Measurements.{run_text}
use Rattle.cb_reports.proofs.measurements.add_problem.Given as goal

abbrev pub invariant-loop-at : goal.invariant-loop-at
invariant-loop-at l = l.text ≡ l.initial.text ++ flat_map (run_text l.report l.pairs l.rows l.problem) (take l.at l.applications)
