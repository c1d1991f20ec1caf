use Rattle.std.proofs.Common.{◌-◌, arith}
use Rattle.cb_tree.specs.Groups.{kinds_of}
use Rattle.cb_tree.proofs.Stack.{last_first}
use Rattle.cb_tree.proofs.Turns.{back_more, kind_at}
use Rattle.cb_tree.proofs.groups.group_ends.Goals as goal

pub nodes-preserved : goal.nodes-preserved
nodes-preserved c =
    rw (c.in_ok-push.ensures.items, c.in_ok-end.ensures.turns, last_first c.nodes.ends.items c.unwrap_or.result, c.unwrap_or.ensures, c.in_ok-end.ensures.end, c.find_role.ensures)
    (back_more (kinds_of c.args.nodes.now) c.nodes.left (c.nodes.left - 1) c.kind.result _ _ c.nodes.invariant
    (omega arith) (kind_at c.args.nodes.now (c.nodes.left - 1) c.kind.result c.kind.ensures))
