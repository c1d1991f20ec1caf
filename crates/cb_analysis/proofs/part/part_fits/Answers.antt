use Rattle.std.proofs.Common.{◌∙◌, sym}
use Rattle.cb_analysis.specs.Fits.{is_star, is_like, is_empty, part_fits}
use Rattle.cb_analysis.proofs.Fitting.{cut_front, at_some, at_none, empty_length}
use Rattle.cb_analysis.proofs.part.part_fits.Goals as goal

pub returns-in_default : goal.returns-in_default
unfolding part_fits
returns-in_default c =
    sym (cut_front is_star is_like is_empty c.args.pattern.now _ _ c.args.part.now c.cut_at_star.ensures ∙ at_none _ _ c.in_default.ensures)

pub returns-in-Some-behind : goal.returns-in-Some-behind
unfolding part_fits
returns-in-Some-behind c =
    c.fits_behind_star.ensures
    ∙ sym (cut_front is_star is_like is_empty c.args.pattern.now _ _ c.args.part.now (rw c.in-Some-behind.is at c.cut_at_star.ensures)
    ∙ at_some _ _ _ c.in-Some.ensures)

pub returns-in-None : goal.returns-in-None
unfolding part_fits
returns-in-None c =
    c.is_empty.ensures ∙ empty_length c.in-Some.left.now
    ∙ sym (cut_front is_star is_like is_empty c.args.pattern.now _ _ c.args.part.now (rw c.in-None.is at c.cut_at_star.ensures)
    ∙ at_some _ _ _ c.in-Some.ensures)
