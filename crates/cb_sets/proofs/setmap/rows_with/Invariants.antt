use Rattle.std.proofs.Common.{take}
use Rattle.std.specs.List.{flat_map}
use Rattle.cb_lines.specs.Lines.{span_lines}
use Rattle.cb_sets.specs.inner.Rows.{IsWith}
use Rattle.cb_sets.proofs.setmap.rows_with.Given as goal

abbrev pub invariant-spans : goal.invariant-spans
invariant-spans l = IsWith l.used (flat_map span_lines (take l.span-index l.span-items)) l.rows l.new.items
