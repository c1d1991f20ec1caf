use Rattle.std.proofs.Common.{◌∙◌, sym}
use Rattle.cb_analysis.specs.Fits.{is_any, part_fits}
use Rattle.cb_analysis.specs.Patterns.{may_follow}
use Rattle.cb_analysis.specs.inner.Left.{left_of}
use Rattle.cb_analysis.proofs.Fitting.{cut_behind, may_follow_closed, at_some, at_none}
use Rattle.cb_analysis.proofs.run.fits_behind_any.Goals as goal

pub returns-in_default : goal.returns-in_default
returns-in_default c =
    sym (c.stars.invariant
    ∙ cut_behind is_any part_fits (may_follow c.args.is_folder) c.stars.pattern.now _ _ (left_of c.stars.path) c.cut_at_any.ensures (may_follow_closed c.args.is_folder)
    ∙ at_none _ _ c.in_default.ensures)

pub returns-in_default-behind : goal.returns-in_default-behind
returns-in_default-behind c =
    c.may_follow.ensures
    ∙ sym (c.stars.invariant
    ∙ cut_behind is_any part_fits (may_follow c.args.is_folder) c.stars.pattern.now _ _ (left_of c.stars.path) (rw c.in_default-behind.is at c.cut_at_any.ensures) (may_follow_closed c.args.is_folder)
    ∙ at_some _ _ _ c.in-Some.ensures)

pub stars-preserved : goal.stars-preserved
stars-preserved c =
    c.stars.invariant
    ∙ cut_behind is_any part_fits (may_follow c.args.is_folder) c.stars.pattern.now _ _ (left_of c.stars.path) (rw c.in-Some-behind.is at c.cut_at_any.ensures) (may_follow_closed c.args.is_folder)
    ∙ at_some _ _ _ c.in-Some.ensures
