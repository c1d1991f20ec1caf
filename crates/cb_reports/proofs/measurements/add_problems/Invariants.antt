use Rattle.std.proofs.Common.{◌≡◌, ◌++◌, take}
use Rattle.std.specs.List.{flat_map}
use Rattle.cb_reports.specs.Measurements.{problem_text}
use Rattle.cb_reports.proofs.measurements.add_problems.Given as goal

abbrev pub invariant-loop-at : goal.invariant-loop-at
invariant-loop-at l = l.text ≡ l.initial.text ++ flat_map (problem_text l.report l.pairs l.rows) (take l.at l.problems)
