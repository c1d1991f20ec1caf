use Rattle.std.proofs.Common.{length, ◌+◌}
use Rattle.cb_tokens.proofs.MarksLeft.{NumberSame, so_many}
use Rattle.cb_tokens.proofs.left.continue_number.Given as goal

abbrev pub invariant-marks : goal.invariant-marks
invariant-marks l = NumberSame l.before l.last l.fn.marker l.next l.marker

abbrev pub decreases-marks : goal.decreases-marks
decreases-marks l = so_many l.next + length l.marker
