use Rattle.std.proofs.Common.{◌≡◌, length}
use Rattle.cb_cluster.proofs.Joins.{IsGood}
use Rattle.cb_cluster.proofs.Fewer.{open_links}
use Rattle.cb_cluster.proofs.merging.join_up_to.Given as goal

abbrev pub invariant-joining : goal.invariant-joining
invariant-joining l = record {
  each : length l.names ≡ length l.initial.names;
  good : IsGood l.links l.h l.names;
}

abbrev pub decreases-joining : goal.decreases-joining
decreases-joining l = open_links l.names l.links
