use Rattle.std.proofs.Common.{OnOk, IfErr, ◌⊎◌, sym, subst}
use Rattle.std.specs.Prelude.{option_map}
use Rattle.cb_inputs.specs.declared.kept_rows.KeptRows.{KeptRows}
use Rattle.cb_inputs.specs.Inputs.{Inputs, PutMeasurements}
use Rattle.cb_inputs.specs.Outcomes.{Accepts, Denies, IsOutcome}
use Rattle.cb_inputs.specs.Refusals.{IsOutside}
use Rattle.cb_inputs.specs.inner.Kept.{inputs_of, known_of}
use Rattle.cb_inputs.proofs.SourceEdits.{Stands}
use Rattle.cb_inputs.proofs.FileEdits.{accepted, cause, denied}
use Rattle.cb_inputs.proofs.inputs.Inputs.put_measurements.Goals as goal

pub returns-clause-accepted : goal.returns-clause-accepted
returns-clause-accepted g c =
    let kept = c.self.inside in
    let i = inputs_of kept.analysis kept.databases kept.sources kept.measurements in
    let ours = known_of kept.analysis kept.databases kept.sources kept.measurements in
    let stands : Stands i ours = record { law = c.one_outcome.ensures.known; known = c.are_read.ensures.known; within = c.are_read.ensures.within; few = c.self.invariant } in
    subst (λ (j : Inputs). OnOk c.put.result (IsOutcome j (PutMeasurements c.args.bytes.now) (Accepts (inputs_of kept.analysis kept.databases kept.sources c.put.new.self)))) c.self.view_is
    (accepted i ours stands c.are_read.ensures.few c.args.bytes.now c.put.result (option_map (λ (rows : KeptRows). rows.bytes) c.put.new.self) c.put.ensures.accepted c.put.ensures.every)

pub returns-clause-cause : goal.returns-clause-cause
returns-clause-cause g c =
    let kept = c.self.inside in
    let i = inputs_of kept.analysis kept.databases kept.sources kept.measurements in
    let ours = known_of kept.analysis kept.databases kept.sources kept.measurements in
    let stands : Stands i ours = record { law = c.one_outcome.ensures.known; known = c.are_read.ensures.known; within = c.are_read.ensures.within; few = c.self.invariant } in
    subst (λ (j : Inputs). IfErr c.put.result (λ refused. IsOutside refused ⊎ IsOutcome j (PutMeasurements c.args.bytes.now) (Denies refused))) c.self.view_is
    (cause i ours stands c.are_read.ensures.few c.args.bytes.now c.put.result c.put.ensures.cause)

pub returns-clause-every : goal.returns-clause-every
returns-clause-every g c = λ refused h.
    let kept = c.self.inside in
    let i = inputs_of kept.analysis kept.databases kept.sources kept.measurements in
    let ours = known_of kept.analysis kept.databases kept.sources kept.measurements in
    let stands : Stands i ours = record { law = c.one_outcome.ensures.known; known = c.are_read.ensures.known; within = c.are_read.ensures.within; few = c.self.invariant } in
    let here = subst (λ (j : Inputs). IsOutcome j (PutMeasurements c.args.bytes.now) (Denies refused)) (sym c.self.view_is) h in
    c.put.ensures.every refused (denied i ours stands c.are_read.ensures.few c.args.bytes.now (Denies refused) here)
