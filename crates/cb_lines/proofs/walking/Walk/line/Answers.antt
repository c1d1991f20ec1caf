use Rattle.std.proofs.Common.{◌<◌, List, length, sym, ap, ◌∙◌, subst, arith}
use Rattle.cb_lines.specs.declared.mark.Mark.{Mark}
use Rattle.cb_lines.specs.Marks.{first_line}
use Rattle.cb_lines.proofs.Holding.{held-first}
use Rattle.cb_lines.proofs.walking.Walk.line.Goals as goal

pub returns : goal.returns
returns c =
    held-first c.self.inside.line c.self.inside.at c.self.inside.bytes.now c.self.inside.splices.now (subst (λ (ms : List Mark). 0 < length ms) (sym c.self.view_is) c.requires) (omega arith) c.self.invariant.0
    ∙ ap first_line c.self.view_is
