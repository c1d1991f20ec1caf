use Rattle.std.proofs.Common.{◌≡◌, take}
use Rattle.std.specs.List.{flat_map}
use Rattle.cb_lines.specs.Lines.{span_lines, union_of}
use Rattle.cb_lines.proofs.line_set.Lines.append.Given as goal

abbrev pub invariant-spans : goal.invariant-spans
invariant-spans l = l.self ≡ union_of (flat_map span_lines (take l.span-index l.span-items)) l.fn.self
