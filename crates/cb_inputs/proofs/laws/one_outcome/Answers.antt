use Rattle.cb_inputs.proofs.OneKnown.{one_known}
use Rattle.cb_inputs.proofs.OneOutcome.{one_outcome}
use Rattle.cb_inputs.proofs.laws.one_outcome.Goals as goal

pub returns-clause-known : goal.returns-clause-known
returns-clause-known c = one_known c.one_reading.ensures c.one_database.ensures.entries

pub returns-clause-outcome : goal.returns-clause-outcome
returns-clause-outcome c =
    one_outcome (record { reading = c.one_reading.ensures; fault = c.one_database.ensures.fault; known = one_known c.one_reading.ensures c.one_database.ensures.entries })
