use Rattle.std.proofs.Common.{Err, ap, inl, inr}
use Rattle.cb_inputs.proofs.sources.Sources.put.Goals as goal

pub returns-in-Ok-clause-every : goal.returns-in-Ok-clause-every
returns-in-Ok-clause-every g c = λ refused h. absurd (c.in-Ok.ensures.sound refused h)

pub returns-in-Err-clause-every : goal.returns-in-Err-clause-every
returns-in-Err-clause-every g c = λ refused h. elim (c.in-Err.ensures.only refused h) [ inl e ↦ inl (ap Err e) | inr e ↦ inr (ap Err e) ]
