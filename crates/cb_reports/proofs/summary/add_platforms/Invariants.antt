use Rattle.std.proofs.Common.{◌≡◌, ◌++◌, take}
use Rattle.cb_reports.specs.Words.{numbered}
use Rattle.cb_reports.specs.Summary.{platform_line}
use Rattle.cb_reports.proofs.summary.add_platforms.Given as goal

abbrev pub invariant-loop-at : goal.invariant-loop-at
invariant-loop-at l = l.text ≡ l.initial.text ++ numbered platform_line 1 (take l.at l.names)
