use Rattle.std.proofs.Common.{◌≡◌, ◌++◌, take}
use Rattle.cb_reports.specs.Words.{numbered}
use Rattle.cb_reports.specs.Clustering.{merge_line}
use Rattle.cb_reports.proofs.clustering.add_merges.Given as goal

abbrev pub invariant-loop-at : goal.invariant-loop-at
invariant-loop-at l = l.text ≡ l.initial.text ++ numbered (merge_line l.names) 1 (take l.at l.merges)
