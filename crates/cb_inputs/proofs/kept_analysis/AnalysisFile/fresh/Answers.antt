use Rattle.cb_inputs.proofs.AnalysisFaults.{contents_have_none, only_fault}
use Rattle.cb_inputs.proofs.kept_analysis.AnalysisFile.fresh.Goals as goal

pub returns-in-Err-clause-only : goal.returns-in-Err-clause-only
returns-in-Err-clause-only c = only_fault c.args.bytes.now c.in-Err.refused c.in-Err.ensures.cause

pub returns-in-Ok-from_slice-clause-sound : goal.returns-in-Ok-from_slice-clause-sound
returns-in-Ok-from_slice-clause-sound c = contents_have_none c.args.bytes.now c.in-Ok.contents c.in-Ok.ensures.contents
