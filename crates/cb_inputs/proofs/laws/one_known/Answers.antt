use Rattle.cb_inputs.proofs.OneKnown.{one_known}
use Rattle.cb_inputs.proofs.laws.one_known.Goals as goal

pub returns : goal.returns
returns c = one_known c.one_reading.ensures c.one_database.ensures.entries
