use Rattle.std.proofs.Common.{◌≡◌, length}
use Rattle.cb_analysis.specs.Fits.{part_fits}
use Rattle.cb_analysis.specs.inner.Fronts.{behind_front}
use Rattle.cb_analysis.specs.inner.Left.{left_of}
use Rattle.cb_analysis.proofs.run.behind_front.Given as goal

abbrev pub invariant-parts : goal.invariant-parts
invariant-parts l =
    behind_front part_fits l.fn.segment (left_of l.fn.path) ≡ behind_front part_fits l.segment (left_of l.path)

abbrev pub decreases-parts : goal.decreases-parts
decreases-parts l = length l.segment
