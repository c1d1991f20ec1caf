use Rattle.std.proofs.Common.{◌≡◌, ◌++◌, take}
use Rattle.cb_reports.specs.Words.{numbered}
use Rattle.cb_reports.specs.Duplicates.{group_text}
use Rattle.cb_reports.proofs.duplicates.add_groups.Given as goal

abbrev pub invariant-loop-at : goal.invariant-loop-at
invariant-loop-at l = l.text ≡ l.initial.text ++ numbered group_text 1 (take l.at l.groups)
