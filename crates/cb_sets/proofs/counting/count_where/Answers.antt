use Rattle.std.proofs.Common.{◌+◌, List, get_or, arith}
use Rattle.cb_sets.specs.declared.row.Row.{Row}
use Rattle.cb_sets.specs.Tallies.{is_any}
use Rattle.cb_sets.specs.inner.Rows.{seen}
use Rattle.cb_sets.specs.inner.Tests.{passes}
use Rattle.cb_sets.proofs.Tallied.{kept_more, kept_front, in_within}
use Rattle.cb_sets.proofs.counting.count_where.Goals as goal

abbrev none : Row
none = record { set = record { bits = 0 }; lines = 0 }

pub overflow_add-count : goal.overflow_add-count
overflow_add-count c =
    let rows : List Row = c.args.rows.now in
    omega (arith, c.count_in-count.ensures, in_within (passes c.args.test) (seen (get_or rows c.rows.row-index none)), kept_more is_any rows c.rows.row-index none c.rows-test.true, kept_front is_any rows (c.rows.row-index + 1))
