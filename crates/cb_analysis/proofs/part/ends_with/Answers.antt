use Rattle.std.proofs.Common.{◌∙◌, sym, ap}
use Rattle.cb_analysis.specs.Fits.{is_star, is_like}
use Rattle.cb_analysis.specs.inner.Fronts.{behind_front}
use Rattle.cb_analysis.proofs.Fitting.{too_long, last_will_do, mapped}
use Rattle.cb_analysis.proofs.part.ends_with.Goals as goal

pub returns-then-text-segment : goal.returns-then-text-segment
returns-then-text-segment c =
    sym (too_long is_star is_like c.args.segment.now c.args.text.now c.requires c.if-text-segment.true)

pub returns : goal.returns
returns c =
    mapped c.behind_front.result _ _ c.is_some.ensures
    (c.behind_front.ensures ∙ ap (behind_front is_like c.args.segment.now) c.split_at.ensures.back)
    ∙ sym (last_will_do is_star is_like c.args.segment.now c.args.text.now c.requires c.if-text-segment.false)
