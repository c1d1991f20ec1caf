use Rattle.std.proofs.Common.{Err, [], refl, ap, inl, inr}
use Rattle.cb_inputs.specs.Refusals.{IsMeasurementsFault}
use Rattle.cb_inputs.proofs.Denials.{body_decides, none_denied}
use Rattle.cb_inputs.proofs.MeasurementFaults.{only_fault}
use Rattle.cb_inputs.proofs.kept_rows.Measurements.put.Goals as goal

pub returns-in-Err-clause-every : goal.returns-in-Err-clause-every
returns-in-Err-clause-every g c = λ refused h.
    elim (body_decides (IsMeasurementsFault c.args.bytes.now) [] c.in-Err.refused c.in-Err.ensures.cause (only_fault c.args.bytes.now c.in-Err.refused c.in-Err.ensures.cause) refused h) [
      | inl e ↦ inl (ap Err e)
      | inr e ↦ inr (ap Err e)
    ]

pub returns-in-Ok-put-clause-every : goal.returns-in-Ok-put-clause-every
returns-in-Ok-put-clause-every g c = λ refused h. absurd (none_denied (IsMeasurementsFault c.args.bytes.now) [] c.in-Ok.ensures.sound refl refused h)

pub returns-in-Err-put-clause-every : goal.returns-in-Err-put-clause-every
returns-in-Err-put-clause-every g c = λ refused h. absurd (none_denied (IsMeasurementsFault c.args.bytes.now) [] c.in-Ok.ensures.sound refl refused h)
