use Rattle.std.proofs.Common.{length}
use Rattle.cb_tokens.proofs.MarksLeft.{QuoteSame}
use Rattle.cb_tokens.proofs.left.quote_left.Given as goal

abbrev pub invariant-marks : goal.invariant-marks
invariant-marks l = QuoteSame l.quote l.fn.marker l.marker

abbrev pub decreases-marks : goal.decreases-marks
decreases-marks l = length l.marker
