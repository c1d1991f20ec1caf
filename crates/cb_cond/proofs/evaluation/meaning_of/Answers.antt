use Rattle.cb_cond.specs.inner.Rests.{left}
use Rattle.cb_cond.specs.Symbols.{symbols}
use Rattle.cb_cond.proofs.Depth.{flat-room}
use Rattle.cb_cond.proofs.evaluation.meaning_of.Goals as goal

pub returns-in-Crowded : goal.returns-in-Crowded
returns-in-Crowded c = absurd (c.in-Crowded.ensures (flat-room (symbols c.args.language (left c.args.rest)) c.requires))
