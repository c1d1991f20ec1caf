use Rattle.std.proofs.Common.{◌≡◌, take}
use Rattle.cb_include.proofs.op_list.Ops.copy.Given as goal

abbrev pub invariant-ops : goal.invariant-ops
invariant-ops l = l.items.items ≡ take l.op-index l.op-items
