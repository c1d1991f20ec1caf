use Rattle.std.proofs.Common.{◌≤◌, length}
use Rattle.cb_outside.proofs.system_files.list_folder.Given as goal

abbrev pub invariant-entries : goal.invariant-entries
invariant-entries g l = length l.names ≤ l.limit
