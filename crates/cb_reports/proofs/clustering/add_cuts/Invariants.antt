use Rattle.std.proofs.Common.{◌≡◌, ◌++◌, drop}
use Rattle.std.specs.List.{flat_map}
use Rattle.cb_reports.specs.Clustering.{cut_line, heights_above, heights_of}
use Rattle.cb_reports.proofs.clustering.add_cuts.Given as goal

abbrev pub invariant-loop-at : goal.invariant-loop-at
invariant-loop-at l =
    l.fn.text ++ flat_map (cut_line l.names l.merges) (heights_of l.merges)
    ≡ l.text ++ flat_map (cut_line l.names l.merges) (heights_above l.last (drop l.at l.merges))
