use Rattle.std.proofs.Common.{◌≡◌, take}
use Rattle.cb_inputs.specs.Commands.{makes}
use Rattle.cb_inputs.proofs.commands.made.Given as goal

abbrev pub invariant-entries : goal.invariant-entries
invariant-entries l = l.items.items ≡ makes l.root (take l.entry-index l.entries)
