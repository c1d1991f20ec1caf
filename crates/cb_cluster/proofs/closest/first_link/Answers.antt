use Rattle.std.proofs.Common.{sym, ◌∙◌}
use Rattle.cb_cluster.proofs.Nearest.{first-none, first-keeps, first-takes}
use Rattle.cb_cluster.proofs.closest.first_link.Goals as goal
use Rattle.cb_cluster.proofs.closest.first_link.Goals.{then-precedes, else-precedes}

pub loop-at-init : goal.loop-at-init
loop-at-init c = first-none c.args.names.now c.args.links.now

pub loop-at-preserved : goal.loop-at-preserved
loop-at-preserved c =
    let names = c.args.names.now in
    let links = c.args.links.now in
    let at = c.loop-at.at in
    let best = c.loop-at.best in
    let x = c.index-links-at.result in
    let y = c.index-links-best.result in
    elim c.if-precedes.branch [
      | then-precedes w ↦ rw w.best-is (first-takes names links at best x y c.loop-at.invariant c.loop-at-test.true c.index-links-at.is c.index-links-best.is (sym c.precedes.ensures ∙ w.if-precedes.true))
      | else-precedes w ↦ rw w.best-is (first-keeps names links at best x y c.loop-at.invariant c.loop-at-test.true c.index-links-at.is c.index-links-best.is (sym c.precedes.ensures ∙ w.if-precedes.false))
    ]
