use Rattle.std.proofs.Common.{◌≡◌, ◌+◌, ◌-◌}
use Rattle.std.specs.List.{flat_map, range_with_len}
use Rattle.cb_lines.specs.Lines.{union_of, span_lines, AreMaximal}
use Rattle.cb_lines.proofs.spans.add_lines.Given as goal

-- the lines from this one on complete the set
abbrev pub invariant-lines : goal.invariant-lines
invariant-lines l = record {
  maximal : AreMaximal l.spans;
  numbers : union_of (range_with_len l.next (l.next-end - l.next)) (flat_map span_lines l.spans) ≡ union_of (range_with_len (l.fn.from + 1) (l.fn.line - l.fn.from)) (flat_map span_lines l.fn.spans);
}
