use Rattle.std.proofs.Common.{◌≡◌, ◌+◌, ◌≤◌, length, count_by}
use Rattle.cb_lines.specs.Marks.{is_line_feed}
use Rattle.cb_tree.proofs.size.line_end_count.Given as goal

abbrev pub invariant-parts : goal.invariant-parts
invariant-parts l = record {
  counted : l.count + count_by is_line_feed l.left ≡ count_by is_line_feed l.source;
  within : l.count + length l.left ≤ 4194304;
}

abbrev pub decreases-parts : goal.decreases-parts
decreases-parts l = length l.left
