use Rattle.cb_paste.proofs.hides.Hides.+both.Given as goal

abbrev pub decreases-both : goal.decreases-both
decreases-both l = l.a
