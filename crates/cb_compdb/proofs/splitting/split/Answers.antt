use Rattle.cb_compdb.specs.inner.Steps.{start}
use Rattle.cb_compdb.proofs.Leading.{Leads-trans}
use Rattle.cb_compdb.proofs.splitting.split.Goals as goal

pub pieces-preserved : goal.pieces-preserved
pieces-preserved c =
    Leads-trans c.args.command.now start c.pieces.left.now c.pieces.splitter c.in-Some-2.rest.now c.front.new.splitter c.pieces.invariant (rw c.in-Some-2.is at c.in_ok-rest.ensures.leads)
