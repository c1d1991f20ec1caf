use Rattle.std.proofs.Common.{sym, ◌∙◌, ap}
use Rattle.cb_tree.specs.declared.nodes.Head.{Head}
use Rattle.cb_tree.proofs.Heads.{kept_behind}
use Rattle.cb_tree.proofs.nodes.kept_before.Goals as goal

pub returns-else-at-eq0 : goal.returns-else-at-eq0
returns-else-at-eq0 c =
    ap (λ (h : Head). h.to) (sym c.index-heads-at.is)
    ∙ kept_behind c.args.heads.now c.args.at c.index-heads-at.result c.if-at-eq0.false c.requires c.index-heads-at.is
