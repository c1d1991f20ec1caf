use Rattle.std.proofs.Common.{take}
use Rattle.std.specs.HashMap.{hash_map_len}
use Rattle.cb_measure.specs.inner.Numbers.{number_found, AreApart}
use Rattle.cb_measure.proofs.Counted.{AreFound}
use Rattle.cb_measure.proofs.numbers.numbers_of.Given as goal

abbrev pub invariant-rows : goal.invariant-rows
invariant-rows l = record {
  apart : AreApart (number_found l.numbers) (hash_map_len l.numbers);
  found : AreFound (number_found l.numbers) (take l.row-index l.rows);
}
