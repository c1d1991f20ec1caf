use Rattle.std.proofs.Common.{◌∙◌, sym}
use Rattle.cb_analysis.specs.Fits.{is_any, part_fits}
use Rattle.cb_analysis.specs.Patterns.{may_follow}
use Rattle.cb_analysis.specs.inner.Left.{left_of}
use Rattle.cb_analysis.proofs.Fitting.{cut_front, at_some, at_none}
use Rattle.cb_analysis.proofs.run.fits_at_front.Goals as goal

pub returns-in_default : goal.returns-in_default
returns-in_default c =
    sym (cut_front is_any part_fits (may_follow c.args.is_folder) c.args.pattern.now _ _ (left_of c.args.path) c.cut_at_any.ensures
    ∙ at_none _ _ c.in_default.ensures)

pub returns-in-Some-behind : goal.returns-in-Some-behind
returns-in-Some-behind c =
    c.fits_behind_any.ensures
    ∙ sym (cut_front is_any part_fits (may_follow c.args.is_folder) c.args.pattern.now _ _ (left_of c.args.path) (rw c.in-Some-behind.is at c.cut_at_any.ensures)
    ∙ at_some _ _ _ c.in-Some.ensures)

pub returns-in-None : goal.returns-in-None
returns-in-None c =
    c.may_follow.ensures
    ∙ sym (cut_front is_any part_fits (may_follow c.args.is_folder) c.args.pattern.now _ _ (left_of c.args.path) (rw c.in-None.is at c.cut_at_any.ensures)
    ∙ at_some _ _ _ c.in-Some.ensures)
