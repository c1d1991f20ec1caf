use Rattle.std.proofs.Common.{◌≡◌, drop}
use Rattle.cb_reports.specs.Files.{unused}
use Rattle.cb_reports.proofs.files.unused.Given as goal

abbrev pub invariant-loop-at : goal.invariant-loop-at
invariant-loop-at l = unused (drop l.at l.used) l.rest ≡ unused l.used l.counted
