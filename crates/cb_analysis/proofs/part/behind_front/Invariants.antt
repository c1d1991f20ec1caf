use Rattle.std.proofs.Common.{◌≡◌, length}
use Rattle.cb_analysis.specs.Fits.{is_like}
use Rattle.cb_analysis.specs.inner.Fronts.{behind_front}
use Rattle.cb_analysis.proofs.part.behind_front.Given as goal

abbrev pub invariant-bytes : goal.invariant-bytes
invariant-bytes l = behind_front is_like l.fn.segment l.fn.text ≡ behind_front is_like l.segment l.text

abbrev pub decreases-bytes : goal.decreases-bytes
decreases-bytes l = length l.segment
