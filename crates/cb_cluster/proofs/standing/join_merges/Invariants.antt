use Rattle.std.proofs.Common.{◌≡◌, drop}
use Rattle.cb_cluster.specs.Merging.{names_after}
use Rattle.cb_cluster.proofs.standing.join_merges.Given as goal

abbrev pub invariant-merges : goal.invariant-merges
invariant-merges l = names_after l.h l.names (drop l.merge-index l.merges) ≡ names_after l.h l.initial.names l.merges
