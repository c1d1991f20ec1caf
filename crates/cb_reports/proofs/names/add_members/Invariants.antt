use Rattle.std.proofs.Common.{◌≡◌, ◌++◌, take}
use Rattle.std.proofs.Common.{map}
use Rattle.cb_reports.specs.Words.{listed, platform_name}
use Rattle.cb_reports.proofs.names.add_members.Given as goal

abbrev pub invariant-loop-at : goal.invariant-loop-at
invariant-loop-at l = l.text ≡ l.initial.text ++ listed (map (platform_name l.names) (take l.at l.members))
