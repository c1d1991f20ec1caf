use Rattle.std.proofs.Common.{◌≡◌, None, Err, OnOk, IfErr, ◌⊎◌, ◌↔◌, subst}
use Rattle.cb_outside.specs.Tables.{text_at}
use Rattle.cb_inputs.specs.declared.refused.Refused.TheVariants.{Absent}
use Rattle.cb_inputs.specs.Inputs.{Inputs, RemoveSource}
use Rattle.cb_inputs.specs.Outcomes.{Accepts, Denies, IsOutcome}
use Rattle.cb_inputs.specs.Refusals.{IsOutside}
use Rattle.cb_inputs.specs.Sources.{source_texts}
use Rattle.cb_inputs.specs.inner.Kept.{inputs_of}
use Rattle.cb_inputs.proofs.SourceEdits.{absent_text, removed_so, not_removed}
use Rattle.cb_inputs.proofs.inputs.Inputs.remove_source.Goals as goal

pub returns-clause-accepted : goal.returns-clause-accepted
returns-clause-accepted g c =
    let kept = c.self.inside in
    let i = inputs_of kept.analysis kept.databases kept.sources kept.measurements in
    let none = absent_text kept.sources c.args.path.now c.remove.ensures.absent in
    subst (λ (j : Inputs). OnOk c.remove.result (IsOutcome j (RemoveSource c.args.path.now) (Accepts (inputs_of kept.analysis kept.databases c.remove.new.self kept.measurements)))) c.self.view_is
    (removed_so i c.args.path.now c.remove.result (source_texts c.remove.new.self) c.remove.ensures.accepted none)

pub returns-clause-absent : goal.returns-clause-absent
returns-clause-absent g c =
    subst (λ (j : Inputs). (c.remove.result ≡ Err Absent) ↔ (text_at c.args.path.now j.sources ≡ None)) c.self.view_is
    (absent_text c.self.inside.sources c.args.path.now c.remove.ensures.absent)

pub returns-clause-cause : goal.returns-clause-cause
returns-clause-cause g c =
    let kept = c.self.inside in
    let i = inputs_of kept.analysis kept.databases kept.sources kept.measurements in
    let none = absent_text kept.sources c.args.path.now c.remove.ensures.absent in
    subst (λ (j : Inputs). IfErr c.remove.result (λ refused. IsOutside refused ⊎ IsOutcome j (RemoveSource c.args.path.now) (Denies refused))) c.self.view_is
    (not_removed i c.args.path.now c.remove.result c.remove.ensures.cause none)
