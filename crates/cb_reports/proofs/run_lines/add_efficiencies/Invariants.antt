use Rattle.std.proofs.Common.{◌≡◌, ◌++◌, take}
use Rattle.std.specs.List.{flat_map}
use Rattle.cb_reports.specs.Measurements.{efficiency_line}
use Rattle.cb_reports.proofs.run_lines.add_efficiencies.Given as goal

abbrev pub invariant-loop-at : goal.invariant-loop-at
invariant-loop-at l = l.text ≡ l.initial.text ++ flat_map (efficiency_line l.rows l.problem l.application) (take l.at l.platforms)
