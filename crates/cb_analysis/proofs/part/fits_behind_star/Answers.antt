use Rattle.std.proofs.Common.{◌∙◌, sym}
use Rattle.cb_analysis.specs.Fits.{is_star, is_like, is_empty}
use Rattle.cb_analysis.proofs.Fitting.{cut_next, at_some, at_none}
use Rattle.cb_analysis.proofs.part.fits_behind_star.Goals as goal

pub returns-in_default-behind_first : goal.returns-in_default-behind_first
returns-in_default-behind_first c =
    sym (c.stars.invariant
    ∙ cut_next is_star is_like is_empty c.stars.pattern.now _ c.in-Some.next c.stars.text.now (rw c.in-Some.is at c.cut_at_star.ensures)
    ∙ at_none _ _ c.in_default-behind_first.ensures)

pub stars-preserved : goal.stars-preserved
stars-preserved c =
    c.stars.invariant
    ∙ cut_next is_star is_like is_empty c.stars.pattern.now _ c.in-Some.next c.stars.text.now (rw c.in-Some.is at c.cut_at_star.ensures)
    ∙ at_some _ _ _ c.in-Some-behind_first.ensures
