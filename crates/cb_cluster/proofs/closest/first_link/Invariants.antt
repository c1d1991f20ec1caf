use Rattle.std.specs.List.{IsFirstBest}
use Rattle.cb_cluster.specs.Inner.{precedes as comes_before}
use Rattle.cb_cluster.proofs.closest.first_link.Given as goal

abbrev pub invariant-loop-at : goal.invariant-loop-at
invariant-loop-at l = IsFirstBest (comes_before l.names) l.links l.at l.best
