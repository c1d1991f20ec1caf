use Rattle.std.proofs.Common.{arith}
use Rattle.cb_lines.proofs.Holding.{feeds_more}
use Rattle.cb_lines.proofs.walking.line_behind_all.Goals as goal

pub loop-byte-preserved : goal.loop-byte-preserved
loop-byte-preserved c = omega (arith, feeds_more c.args.bytes.now c.loop-byte.byte-index c.loop-byte-test.true)
