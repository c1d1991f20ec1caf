use Rattle.std.proofs.Common.{◌≡◌, length}
use Rattle.cb_analysis.specs.Fits.{is_like}
use Rattle.cb_analysis.specs.inner.Fronts.{behind_first}
use Rattle.cb_analysis.proofs.part.behind_first.Given as goal

abbrev pub invariant-places : goal.invariant-places
invariant-places l = behind_first is_like l.segment l.fn.text ≡ behind_first is_like l.segment l.text

abbrev pub decreases-places : goal.decreases-places
decreases-places l = length l.text
