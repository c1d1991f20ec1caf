use Rattle.std.proofs.Common.{◌≡◌, ◌++◌, take}
use Rattle.cb_reports.specs.Words.{numbered}
use Rattle.cb_reports.specs.Measurements.{step_line}
use Rattle.cb_reports.proofs.run_lines.add_cascade.Given as goal

abbrev pub invariant-loop-at : goal.invariant-loop-at
invariant-loop-at l = l.text ≡ l.initial.text ++ numbered (step_line l.problem l.application) 1 (take l.at l.steps)
