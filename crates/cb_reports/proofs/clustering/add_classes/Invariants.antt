use Rattle.std.proofs.Common.{◌≡◌, ◌++◌, take}
use Rattle.std.specs.List.{flat_map}
use Rattle.cb_reports.specs.Clustering.{spaced_set}
use Rattle.cb_reports.proofs.clustering.add_classes.Given as goal

abbrev pub invariant-loop-at : goal.invariant-loop-at
invariant-loop-at l = l.text ≡ l.initial.text ++ flat_map (spaced_set l.names) (take l.at l.classes)
