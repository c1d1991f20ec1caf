use Rattle.cb_lines.proofs.Holding.{on_line_once}
use Rattle.cb_lines.proofs.laws.one_line.Goals as goal

pub returns : goal.returns
returns c = on_line_once
