use Rattle.cb_paste.proofs.stacking.move_argument.Goals as goal

pub returns-clause-within : goal.returns-clause-within
returns-clause-within c = c.space_first.ensures.within _ c.in_ok-push_moved.ensures.within
