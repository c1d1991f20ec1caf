use Rattle.cb_tree.proofs.NestSteps.{may_stand, nested_more}
use Rattle.cb_tree.proofs.nesting.nest.Goals as goal

pub loop-i-preserved : goal.loop-i-preserved
loop-i-preserved c =
    nested_more c.args.nodes.now c.loop-i.i c.kind.result c.loop-i.nesting c.place.new.nesting c.kind.ensures c.loop-i.invariant
    (rw c.find_role.ensures at c.in_ok-place.ensures)

pub place-requires : goal.place-requires
place-requires c = record {
  stacked = c.loop-i.invariant.stacked;
  may = rw c.find_role.ensures (may_stand c.args.nodes.now c.loop-i.i c.kind.result c.loop-i.nesting c.kind.ensures c.loop-i.invariant);
}
