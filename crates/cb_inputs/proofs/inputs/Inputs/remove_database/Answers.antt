use Rattle.std.proofs.Common.{◌≡◌, None, Err, OnOk, IfErr, ◌⊎◌, ◌↔◌, subst}
use Rattle.cb_outside.specs.Tables.{text_at}
use Rattle.cb_inputs.specs.declared.refused.Refused.TheVariants.{Absent}
use Rattle.cb_inputs.specs.Inputs.{Inputs, RemoveDatabase}
use Rattle.cb_inputs.specs.Outcomes.{Accepts, Denies, IsOutcome}
use Rattle.cb_inputs.specs.Refusals.{IsOutside}
use Rattle.cb_inputs.specs.Databases.{database_texts}
use Rattle.cb_inputs.specs.inner.Kept.{inputs_of}
use Rattle.cb_inputs.proofs.DatabaseEdits.{absent_text, removed_so, not_removed, still_few}
use Rattle.cb_inputs.proofs.inputs.Inputs.remove_database.Goals as goal

pub returns-clause-accepted : goal.returns-clause-accepted
returns-clause-accepted g c =
    let kept = c.self.inside in
    let i = inputs_of kept.analysis kept.databases kept.sources kept.measurements in
    let none = absent_text kept.databases c.args.path.now c.remove.ensures.absent in
    subst (λ (j : Inputs). OnOk c.remove.result (IsOutcome j (RemoveDatabase c.args.path.now) (Accepts (inputs_of kept.analysis c.remove.new.self kept.sources kept.measurements)))) c.self.view_is
    (removed_so i c.args.path.now c.remove.result (database_texts c.remove.new.self) c.remove.ensures.accepted none)

pub returns-clause-absent : goal.returns-clause-absent
returns-clause-absent g c =
    subst (λ (j : Inputs). (c.remove.result ≡ Err Absent) ↔ (text_at c.args.path.now j.databases ≡ None)) c.self.view_is
    (absent_text c.self.inside.databases c.args.path.now c.remove.ensures.absent)

pub returns-clause-cause : goal.returns-clause-cause
returns-clause-cause g c =
    let kept = c.self.inside in
    let i = inputs_of kept.analysis kept.databases kept.sources kept.measurements in
    let none = absent_text kept.databases c.args.path.now c.remove.ensures.absent in
    subst (λ (j : Inputs). IfErr c.remove.result (λ refused. IsOutside refused ⊎ IsOutcome j (RemoveDatabase c.args.path.now) (Denies refused))) c.self.view_is
    (not_removed i c.args.path.now c.remove.result c.remove.ensures.cause none)

pub invariant_of-self : goal.invariant_of-self
invariant_of-self g c =
    let kept = c.self.inside in
    still_few kept.databases c.args.path.now c.len.ensures.rising c.remove.result c.remove.new.self kept.analysis kept.sources kept.measurements c.self.invariant c.remove.ensures.entries c.remove.ensures.unchanged
