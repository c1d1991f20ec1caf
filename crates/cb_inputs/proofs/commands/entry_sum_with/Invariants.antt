use Rattle.std.proofs.Common.{◌≡◌, ◌*◌, ◌≤◌, take, length, sum_by}
use Rattle.std.specs.BTreeMap.{insert_entry}
use Rattle.std.specs.Ordering.{nat_cmp}
use Rattle.std.specs.Cmp.Lexicographic.{slice_cmp}
use Rattle.cb_analysis.specs.declared.platform.Platform.{Platform}
use Rattle.cb_inputs.specs.Commands.{entries_at}
use Rattle.cb_inputs.specs.Databases.{database_entries}
use Rattle.cb_inputs.proofs.commands.entry_sum_with.Given as goal

abbrev pub invariant-platforms : goal.invariant-platforms
invariant-platforms l = record {
  sum : l.sum ≡ sum_by (λ (platform : Platform). length (entries_at (database_entries (insert_entry (slice_cmp nat_cmp) l.databases l.key l.fresh)) platform.commands)) (take l.platform-index l.platforms);
  bound : l.sum ≤ l.platform-index * 20000;
}
