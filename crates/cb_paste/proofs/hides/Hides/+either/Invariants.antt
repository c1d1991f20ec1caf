use Rattle.cb_paste.proofs.hides.Hides.+either.Given as goal

abbrev pub decreases-either : goal.decreases-either
decreases-either l = l.a
