use Rattle.std.proofs.Common.{sym}
use Rattle.cb_paste.proofs.Sides.{with_odd, with_even}
use Rattle.cb_paste.proofs.hides.Cell.with_side.Goals as goal

pub returns-then-place-eq1 : goal.returns-then-place-eq1
returns-then-place-eq1 c = sym (with_odd c.args.self c.args.place c.args.below c.if-place-eq1.true)

pub returns : goal.returns
returns c = sym (with_even c.args.self c.args.place c.args.below c.if-place-eq1.false)
