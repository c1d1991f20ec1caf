use Rattle.std.proofs.Common.{◌≡◌, length}
use Rattle.cb_analysis.specs.Fits.{is_star, is_like, is_empty}
use Rattle.cb_analysis.specs.inner.Fronts.{behind_star}
use Rattle.cb_analysis.proofs.part.fits_behind_star.Given as goal

abbrev pub invariant-stars : goal.invariant-stars
invariant-stars l = behind_star is_star is_like is_empty l.fn.pattern l.fn.text ≡ behind_star is_star is_like is_empty l.pattern l.text

abbrev pub decreases-stars : goal.decreases-stars
decreases-stars l = length l.pattern
