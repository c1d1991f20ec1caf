use Rattle.std.proofs.Common.{◌≡◌, ◌∙◌, sym, ap, subst}
use Rattle.cb_inputs.specs.Inputs.{Inputs}
use Rattle.cb_inputs.specs.Readings.{Known, IsKnown}
use Rattle.cb_inputs.specs.inner.Kept.{inputs_of, known_of}
use Rattle.std.proofs.Common.{ℕ, refl, ◌≤◌}
use Rattle.cb_inputs.specs.Commands.{command_count}
use Rattle.cb_inputs.proofs.inputs.Inputs.commands.Goals as goal

pub returns-clause-known : goal.returns-clause-known
returns-clause-known c =
    let kept = c.self.inside in
    let ours = known_of kept.analysis kept.databases kept.sources kept.measurements in
    subst (λ (j : Inputs). (k : Known) × IsKnown j k) c.self.view_is (ours, c.are_read.ensures.known)

pub returns-clause-count : goal.returns-clause-count
returns-clause-count c = λ k h.
    let kept = c.self.inside in
    let ours = known_of kept.analysis kept.databases kept.sources kept.measurements in
    let i = inputs_of kept.analysis kept.databases kept.sources kept.measurements in
    let same : ours ≡ k = c.one_known.ensures i ours k c.are_read.ensures.known (subst (λ (j : Inputs). IsKnown j k) (sym c.self.view_is) h) in
    c.command_count.ensures ours c.contents.ensures refl ∙ ap command_count same

pub returns-clause-few : goal.returns-clause-few
returns-clause-few c =
    let kept = c.self.inside in
    let ours = known_of kept.analysis kept.databases kept.sources kept.measurements in
    let same = c.command_count.ensures ours c.contents.ensures refl in
    subst (λ (n : ℕ). n ≤ 20000) (sym same) c.self.invariant
