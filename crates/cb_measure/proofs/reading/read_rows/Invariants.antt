use Rattle.std.proofs.Common.{◌≡◌, ◌+◌, ◌≤◌, length, true}
use Rattle.std.specs.List.{list_all}
use Rattle.cb_measure.specs.inner.Finding.{is_small}
use Rattle.std.specs.BTreeSet.{keys}
use Rattle.cb_measure.proofs.RowsRead.{AreRead}
use Rattle.cb_measure.proofs.reading.read_rows.Given as goal

abbrev pub invariant-rows : goal.invariant-rows
invariant-rows l = record {
  read : AreRead l.text l.reader l.columns l.rows.items (keys l.platforms);
  counted : l.number ≡ length l.rows.items + 2;
  met_few : length (keys l.platforms) ≤ 64;
  small : list_all is_small l.rows.items ≡ true;
  few : length l.rows.items ≤ 100000;
}
