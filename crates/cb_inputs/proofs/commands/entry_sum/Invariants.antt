use Rattle.std.proofs.Common.{◌≡◌, ◌*◌, ◌≤◌, take, length, sum_by}
use Rattle.cb_analysis.specs.declared.platform.Platform.{Platform}
use Rattle.cb_inputs.specs.Commands.{entries_at}
use Rattle.cb_inputs.specs.Databases.{database_entries}
use Rattle.cb_inputs.proofs.commands.entry_sum.Given as goal

abbrev pub invariant-platforms : goal.invariant-platforms
invariant-platforms l = record {
  sum : l.sum ≡ sum_by (λ (platform : Platform). length (entries_at (database_entries l.databases) platform.commands)) (take l.platform-index l.platforms);
  bound : l.sum ≤ l.platform-index * 20000;
}
