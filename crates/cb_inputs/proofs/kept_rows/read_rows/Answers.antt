use Rattle.cb_inputs.proofs.MeasurementFaults.{rows_have_none}
use Rattle.cb_inputs.proofs.kept_rows.read_rows.Goals as goal

pub returns-in-Ok-from_slice-clause-sound : goal.returns-in-Ok-from_slice-clause-sound
returns-in-Ok-from_slice-clause-sound c = rows_have_none c.args.bytes.now c.in-Ok.rows c.in-Ok.ensures.rows
