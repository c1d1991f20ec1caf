use Rattle.std.proofs.Common.{◌≡◌, length}
use Rattle.cb_analysis.specs.Fits.{is_any, part_fits}
use Rattle.cb_analysis.specs.Patterns.{may_follow}
use Rattle.cb_analysis.specs.inner.Fronts.{behind_star}
use Rattle.cb_analysis.specs.inner.Left.{left_of}
use Rattle.cb_analysis.proofs.run.fits_behind_any.Given as goal

abbrev pub invariant-stars : goal.invariant-stars
invariant-stars l =
    behind_star is_any part_fits (may_follow l.is_folder) l.fn.pattern (left_of l.fn.path)
    ≡ behind_star is_any part_fits (may_follow l.is_folder) l.pattern (left_of l.path)

abbrev pub decreases-stars : goal.decreases-stars
decreases-stars l = length l.pattern
