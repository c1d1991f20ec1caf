use Rattle.std.proofs.Common.{◌≡◌, eqb, filter, map}
use Rattle.std.specs.List.{range_with_len}
use Rattle.cb_cluster.specs.Names.{name_of as name_in, members as members_of}
use Rattle.cb_cluster.proofs.clusters.clusters.Given as goal

abbrev pub invariant-loop-at : goal.invariant-loop-at
invariant-loop-at l = l.held.items ≡ map (members_of l.names) (filter (λ platform. eqb (name_in l.names platform) platform) (range_with_len 1 l.at))
