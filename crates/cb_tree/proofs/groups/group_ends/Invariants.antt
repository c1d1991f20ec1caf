use Rattle.std.specs.Prelude.{reverse}
use Rattle.cb_tree.specs.Groups.{kinds_of}
use Rattle.cb_tree.proofs.Turns.{Back}
use Rattle.cb_tree.proofs.groups.group_ends.Given as goal

abbrev pub invariant-nodes : goal.invariant-nodes
invariant-nodes l = Back (kinds_of l.nodes) l.left (reverse l.ends.items) (reverse l.turns.items)

abbrev pub decreases-nodes : goal.decreases-nodes
decreases-nodes l = l.left
