use Rattle.cb_cluster.proofs.Linked.{Goes}
use Rattle.cb_cluster.proofs.linking.links.Given as goal

abbrev pub invariant-loop-pair : goal.invariant-loop-pair
invariant-loop-pair l = Goes l.count l.pairs l.pair-index l.left l.right l.held.items
