use Rattle.std.proofs.Common.{[], length}
use Rattle.cb_tree.specs.inner.Reads.{Reads}
use Rattle.cb_tree.proofs.reading.skip_white.Given as goal

abbrev pub invariant-pieces : goal.invariant-pieces
invariant-pieces l = Reads l.fn.walk [] l.walk

abbrev pub decreases-pieces : goal.decreases-pieces
decreases-pieces l = length l.walk
