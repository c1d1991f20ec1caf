use Rattle.cb_pass.proofs.Trailing.{worded}
use Rattle.cb_pass.proofs.trail.Trail.take_word.Goals as goal

pub returns : goal.returns
returns c = worded _ _ _ _ _ _ _ _ c.self.view_is c.in_ok-take_word.ensures
