use Rattle.std.proofs.Common.{◌≡◌, ◌++◌, map, take}
use Rattle.std.specs.List.{flat_map}
use Rattle.cb_sets.specs.inner.Rows.{seen}
use Rattle.cb_reports.specs.Summary.{set_line}
use Rattle.cb_reports.proofs.summary.add_rows.Given as goal

abbrev pub invariant-loop-at : goal.invariant-loop-at
invariant-loop-at l = l.text ≡ l.initial.text ++ flat_map (set_line l.names l.total) (map seen (take l.at l.rows))
