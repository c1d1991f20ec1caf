use Rattle.std.proofs.Common.{◌≡◌, List, ◌++◌, length}
use Rattle.cb_cluster.specs.declared.merge.Merge.{Merge}
use Rattle.cb_cluster.specs.Names.{singles}
use Rattle.cb_cluster.specs.Merging.{AreMerges}
use Rattle.cb_cluster.proofs.Fewer.{open_links}
use Rattle.cb_cluster.proofs.merging.merges.Given as goal

abbrev pub invariant-merging : goal.invariant-merging
invariant-merging l = record {
  each : length l.names.items ≡ l.count;
  follow : (ms : List Merge) → AreMerges l.links.items l.names.items ms → AreMerges l.links.items (singles l.count) (l.held.items ++ ms);
}

abbrev pub decreases-merging : goal.decreases-merging
decreases-merging l = open_links l.names.items l.links.items
