use Rattle.std.proofs.Common.{◌≡◌, ◌++◌, take}
use Rattle.cb_reports.specs.Words.{numbered}
use Rattle.cb_reports.specs.Files.{used_line}
use Rattle.cb_reports.proofs.files.add_used.Given as goal

abbrev pub invariant-loop-at : goal.invariant-loop-at
invariant-loop-at l = l.text ≡ l.initial.text ++ numbered (used_line l.names) 1 (take l.at l.used)
