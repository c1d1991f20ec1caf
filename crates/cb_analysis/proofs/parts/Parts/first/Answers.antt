use Rattle.cb_analysis.proofs.Splitting.{parts_cut}
use Rattle.cb_analysis.proofs.parts.Parts.first.Goals as goal

pub returns-clause-some : goal.returns-clause-some
returns-clause-some c =
    rw c.in-Some.is (parts_cut c.in-Some.text.now _ _ c.cut.ensures.front c.cut.ensures.found c.cut.ensures.whole)
