use Rattle.cb_analysis.proofs.Splitting.{is_cut}
use Rattle.cb_analysis.proofs.part.cut_at_star.Goals as goal

pub returns : goal.returns
returns c = is_cut c.args.pattern.now _ _ c.cut.ensures.front c.cut.ensures.found c.cut.ensures.whole
