use Rattle.std.proofs.Common.{◌≡◌, ◌∙◌, sym, ap, subst}
use Rattle.cb_inputs.specs.Inputs.{Inputs}
use Rattle.cb_inputs.specs.Readings.{Known, IsKnown}
use Rattle.cb_inputs.specs.inner.Kept.{inputs_of, known_of}
use Rattle.cb_inputs.proofs.inputs.Inputs.analysis.Goals as goal

pub returns-clause-contents : goal.returns-clause-contents
returns-clause-contents c = λ k h.
    let kept = c.self.inside in
    let ours = known_of kept.analysis kept.databases kept.sources kept.measurements in
    let i = inputs_of kept.analysis kept.databases kept.sources kept.measurements in
    let same : ours ≡ k = c.one_known.ensures i ours k c.are_read.ensures.known (subst (λ (j : Inputs). IsKnown j k) (sym c.self.view_is) h) in
    ap (λ (x : Known). x.analysis) same
