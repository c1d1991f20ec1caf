use Rattle.std.proofs.Common.{◌≡◌, ◌+◌, ◌≤◌, length}
use Rattle.cb_tree.specs.inner.Heads.{nodes_in, AreWithin, kept_up_to}
use Rattle.cb_tree.specs.Nodes.{total_lines}
use Rattle.cb_tree.proofs.NodeSteps.{Progress}
use Rattle.cb_tree.proofs.sequence.read_nodes.Given as goal

abbrev pub invariant-nodes : goal.invariant-nodes
invariant-nodes l = Progress l.fn.walk (nodes_in l.tokens.items 0 l.heads.items) l.sections l.walk × AreWithin (length l.tokens.items) 0 l.heads.items
    × (length l.tokens.items + length l.walk ≤ length l.fn.walk) × (l.total ≡ total_lines (nodes_in l.tokens.items 0 l.heads.items)) × (kept_up_to 0 l.heads.items ≡ length l.tokens.items)

abbrev pub decreases-nodes : goal.decreases-nodes
decreases-nodes l = length l.walk
