use Rattle.std.proofs.Common.{◌≡◌}
use Rattle.cb_cluster.specs.Names.{singles as singles_of}
use Rattle.cb_cluster.proofs.clusters.singles.Given as goal

abbrev pub invariant-loop-platform : goal.invariant-loop-platform
invariant-loop-platform l = l.names.items ≡ singles_of l.platform
