use Rattle.std.proofs.Common.{◌∙◌, sym}
use Rattle.cb_analysis.specs.Fits.{is_any}
use Rattle.cb_analysis.proofs.Fitting.{cut_none, cut_some, none_of}
use Rattle.cb_analysis.proofs.run.cut_at_any.Goals as goal

pub returns-in-Some : goal.returns-in-Some
returns-in-Some c =
    cut_some is_any c.args.pattern.now _ _ c.in-Some.field-0-0.now c.in-Some.behind c.front_len.ensures.len c.split_at.ensures.front
    (sym c.split_at.ensures.back ∙ c.in-Some.ensures.cases.0)

pub returns-in-None : goal.returns-in-None
returns-in-None c =
    cut_none is_any c.args.pattern.now _ _ c.front_len.ensures.len c.split_at.ensures.front
    (sym c.split_at.ensures.back ∙ none_of _ c.in-None.ensures.cases)
