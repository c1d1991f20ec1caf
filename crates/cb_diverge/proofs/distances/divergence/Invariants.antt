use Rattle.std.proofs.Common.{◌≡◌, ◌*◌, ◌≤◌, take, sum_by}
use Rattle.cb_diverge.specs.Distances.{grid_of}
use Rattle.cb_diverge.proofs.distances.divergence.Given as goal

abbrev pub invariant-loop-pair : goal.invariant-loop-pair
invariant-loop-pair l = record {
  total : l.total ≡ sum_by grid_of (take l.pair-index l.pairs);
  bound : l.total ≤ l.pair-index * 1000000000000;
}
