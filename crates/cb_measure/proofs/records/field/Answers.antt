use Rattle.std.proofs.Common.{sym}
use Rattle.cb_measure.proofs.Consumed.{field_there, field_past}
use Rattle.cb_measure.proofs.records.field.Goals as goal

pub returns-in-Some : goal.returns-in-Some
returns-in-Some c = sym (field_there _ _ _ (sym c.in-Some.ensures.value))

pub returns-in-None : goal.returns-in-None
returns-in-None c = sym (field_past _ _ (sym c.in-None.ensures.value))
