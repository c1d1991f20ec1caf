use Rattle.std.proofs.Common.{List, sym, subst, ◌+◌}
use Rattle.cb_cluster.specs.declared.link.Link.{Link}
use Rattle.cb_cluster.proofs.Linked.{Goes, Goes-more}
use Rattle.cb_cluster.proofs.linking.links.Goals as goal

pub loop-pair-preserved : goal.loop-pair-preserved
loop-pair-preserved c =
    let step = c.loop-pair in
    subst (λ (held : List Link). Goes c.args.count c.args.pairs.now (step.pair-index + 1) c.next_pair.result.0 c.next_pair.result.1 held) (sym c.in_ok-push.ensures.items)
    (Goes-more c.args.count c.args.pairs.now step.pair-index step.left step.right step.held.items c.pair-item.result c.next_pair.result.0 c.next_pair.result.1
    c.loop-pair-test.true step.invariant c.pair-item.is c.next_pair.ensures.row c.next_pair.ensures.next)
