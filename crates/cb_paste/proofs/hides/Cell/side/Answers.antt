use Rattle.std.proofs.Common.{sym}
use Rattle.cb_paste.proofs.Sides.{side_odd, side_even}
use Rattle.cb_paste.proofs.hides.Cell.side.Goals as goal

pub returns-then-place-eq1 : goal.returns-then-place-eq1
returns-then-place-eq1 c = sym (side_odd c.args.self c.args.place c.if-place-eq1.true)

pub returns-else-place-eq1 : goal.returns-else-place-eq1
returns-else-place-eq1 c = sym (side_even c.args.self c.args.place c.if-place-eq1.false)
