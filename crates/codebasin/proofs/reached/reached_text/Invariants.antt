use Rattle.std.proofs.Common.{◌≡◌, ◌+◌, ◌++◌, drop}
use Rattle.cb_pass.specs.Reached.{has_bit}
use Rattle.codebasin.specs.Specialise.{lines_from}
use Rattle.codebasin.specs.Texts.{numbers_text}
use Rattle.codebasin.proofs.reached.reached_text.Given as goal

-- the lines of the nodes from this one on complete the text
abbrev pub invariant-nodes : goal.invariant-nodes
invariant-nodes l =
    l.text.items ++ numbers_text (lines_from (has_bit l.row) (l.index + 1) (drop l.index l.tree))
    ≡ numbers_text (lines_from (has_bit l.row) 1 l.tree)
