use Rattle.std.proofs.Common.{◌≡◌, ◌≤◌, take, count_by}
use Rattle.cb_lines.specs.Marks.{is_line_feed}
use Rattle.cb_tree.proofs.size.line_ends_in.Given as goal

abbrev pub invariant-loop-byte : goal.invariant-loop-byte
invariant-loop-byte l = (l.count ≤ l.byte-index) × (l.count ≡ count_by is_line_feed (take l.byte-index l.bytes))
