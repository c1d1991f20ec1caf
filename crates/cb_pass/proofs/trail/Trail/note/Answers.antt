use Rattle.cb_pass.proofs.Trailing.{noted}
use Rattle.cb_pass.proofs.trail.Trail.note.Goals as goal

pub returns : goal.returns
returns c = noted _ _ _ _ _ _ _ _ _ c.self.view_is c.in_ok-note.ensures
