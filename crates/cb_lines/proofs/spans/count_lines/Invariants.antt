use Rattle.std.proofs.Common.{◌≡◌, ◌+◌, ◌^◌, ◌≤◌, take, length}
use Rattle.cb_lines.proofs.SpanLists.{lines, bound}
use Rattle.cb_lines.proofs.spans.count_lines.Given as goal

abbrev pub invariant-loop-span : goal.invariant-loop-span
invariant-loop-span l = record {
  count : l.count ≡ length (lines (take l.span-index l.spans));
  low : bound 0 (take l.span-index l.spans) ≤ 2 ^ 32 + 1;
}
