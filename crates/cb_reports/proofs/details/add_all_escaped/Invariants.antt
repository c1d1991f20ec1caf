use Rattle.std.proofs.Common.{◌≡◌, ◌++◌, take}
use Rattle.std.specs.List.{flat_map}
use Rattle.cb_reports.specs.Details.{escaped}
use Rattle.cb_reports.proofs.details.add_all_escaped.Given as goal

abbrev pub invariant-loop-byte : goal.invariant-loop-byte
invariant-loop-byte l = l.text ≡ l.initial.text ++ flat_map escaped (take l.byte-index l.detail)
