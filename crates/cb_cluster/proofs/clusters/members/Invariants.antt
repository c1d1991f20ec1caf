use Rattle.std.proofs.Common.{◌≡◌, eqb, filter}
use Rattle.std.specs.List.{range_with_len}
use Rattle.cb_cluster.specs.Names.{name_of as name_in}
use Rattle.cb_cluster.proofs.clusters.members.Given as goal

abbrev pub invariant-loop-at : goal.invariant-loop-at
invariant-loop-at l = l.held.items ≡ filter (λ platform. eqb (name_in l.names platform) l.cluster) (range_with_len 1 l.at)
