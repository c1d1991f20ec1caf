use Rattle.cb_paste.proofs.hides.Hides.+with.Given as goal

abbrev pub decreases-with : goal.decreases-with
decreases-with l = l.place
