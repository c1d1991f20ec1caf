use Rattle.std.proofs.Common.{◌≡◌, length}
use Rattle.cb_analysis.specs.Fits.{part_fits}
use Rattle.cb_analysis.specs.inner.Fronts.{behind_first}
use Rattle.cb_analysis.specs.inner.Left.{left_of}
use Rattle.cb_analysis.proofs.run.behind_first.Given as goal

abbrev pub invariant-places : goal.invariant-places
invariant-places l = behind_first part_fits l.segment (left_of l.fn.path) ≡ behind_first part_fits l.segment (left_of l.path)

abbrev pub decreases-places : goal.decreases-places
decreases-places l = length (left_of l.path)
