use Rattle.std.proofs.Common.{[], ap, ◌∙◌}
use Rattle.cb_lines.proofs.SpanLists.{lines}
use Rattle.cb_lines.proofs.Adding.{alone}
use Rattle.cb_lines.proofs.line_set.Lines.single.Goals as goal

pub returns : goal.returns
returns c = ap lines c.single.ensures ∙ alone c.args.line 0 [] tt
