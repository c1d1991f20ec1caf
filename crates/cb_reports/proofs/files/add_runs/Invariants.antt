use Rattle.std.proofs.Common.{◌≡◌, ◌++◌, take}
use Rattle.std.specs.List.{flat_map}
use Rattle.cb_reports.specs.Files.{spaced_run}
use Rattle.cb_reports.proofs.files.add_runs.Given as goal

abbrev pub invariant-loop-at : goal.invariant-loop-at
invariant-loop-at l = l.text ≡ l.initial.text ++ flat_map spaced_run (take l.at l.spans)
