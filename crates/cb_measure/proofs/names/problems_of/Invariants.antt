use Rattle.std.proofs.Common.{◌≡◌, take, map}
use Rattle.std.specs.BTreeSet.{keys}
use Rattle.cb_measure.specs.Names.{names_of}
use Rattle.cb_measure.specs.declared.row.Row.{Row}
use Rattle.cb_measure.proofs.names.problems_of.Given as goal

abbrev pub invariant-rows : goal.invariant-rows
invariant-rows l = keys l.names ≡ names_of (map (λ (row : Row). row.problem) (take l.row-index l.rows))
