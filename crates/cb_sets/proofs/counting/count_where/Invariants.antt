use Rattle.std.proofs.Common.{◌≡◌, ◌≤◌, take, map}
use Rattle.cb_sets.specs.Tallies.{lines_where, is_any}
use Rattle.cb_sets.specs.inner.Rows.{seen}
use Rattle.cb_sets.specs.inner.Tests.{passes}
use Rattle.cb_sets.proofs.counting.count_where.Given as goal

abbrev pub invariant-rows : goal.invariant-rows
invariant-rows l = record {
  count : l.count ≡ lines_where (passes l.test) (map seen (take l.row-index l.rows));
  within : l.count ≤ lines_where is_any (map seen (take l.row-index l.rows));
}
