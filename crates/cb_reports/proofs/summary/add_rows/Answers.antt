use Rattle.std.proofs.Common.{arith}
use Rattle.cb_reports.proofs.Sets.{row_at}
use Rattle.cb_reports.proofs.summary.add_rows.Goals as goal

pub add_row-requires : goal.add_row-requires
add_row-requires c = omega (arith, row_at c.args.rows.now c.loop-at.at c.loop-at-test.true, c.requires)
