-- The names so far are distinct, and are those that are held.
use Rattle.std.proofs.Common.{◌≡◌, true, take}
use Rattle.cb_macro.specs.Definitions.{are_distinct}
use Rattle.cb_macro.proofs.parameters.all_names.Given as goal

abbrev pub invariant-loop-name : goal.invariant-loop-name
invariant-loop-name l = record {
  held : l.all ≡ take l.name-index l.names;
  distinct : are_distinct (take l.name-index l.names) ≡ true;
}
