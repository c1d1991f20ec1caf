use Rattle.std.proofs.Common.{Err, [], refl, ap, inl, inr}
use Rattle.cb_inputs.specs.Refusals.{IsAnalysisFault}
use Rattle.cb_inputs.proofs.Denials.{body_decides, none_denied}
use Rattle.cb_inputs.proofs.kept_analysis.AnalysisFile.put.Goals as goal

pub returns-in-Ok-clause-every : goal.returns-in-Ok-clause-every
returns-in-Ok-clause-every g c = λ refused h. absurd (none_denied (IsAnalysisFault c.args.bytes.now) [] c.in-Ok.ensures.sound refl refused h)

pub returns-in-Err-clause-every : goal.returns-in-Err-clause-every
returns-in-Err-clause-every g c = λ refused h.
    elim (body_decides (IsAnalysisFault c.args.bytes.now) [] c.in-Err.refused c.in-Err.ensures.cause c.in-Err.ensures.only refused h) [
      | inl e ↦ inl (ap Err e)
      | inr e ↦ inr (ap Err e)
    ]
