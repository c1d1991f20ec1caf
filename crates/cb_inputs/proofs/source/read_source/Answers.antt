use Rattle.std.proofs.Common.{[]}
use Rattle.cb_inputs.proofs.SourceFaults.{sound_has_none, only_fault}
use Rattle.cb_inputs.proofs.source.read_source.Goals as goal

pub returns-in-Err-clause-only : goal.returns-in-Err-clause-only
returns-in-Err-clause-only c = only_fault c.one_reading.ensures c.args.bytes.now c.in-Err.refused (c.in-Err.ensures.cause [])

pub returns-in-Ok-from_slice-clause-sound : goal.returns-in-Ok-from_slice-clause-sound
returns-in-Ok-from_slice-clause-sound c = sound_has_none c.one_reading.ensures c.args.bytes.now c.in-Ok.tree c.in-Ok.ensures.tree
