use Rattle.std.proofs.Common.{length}
use Rattle.cb_compdb.specs.inner.Steps.{start, Leads}
use Rattle.cb_compdb.proofs.splitting.split.Given as goal

abbrev pub invariant-pieces : goal.invariant-pieces
invariant-pieces l = Leads l.command start l.left l.splitter

abbrev pub decreases-pieces : goal.decreases-pieces
decreases-pieces l = length l.left
