use Rattle.std.proofs.Common.{ℕ, ◌≡◌, ◌+◌, ◌-◌, ◌<◌, ◌≤◌, false, length, slice_index}
use Rattle.cb_lines.specs.Marks.{is_line_feed}
use Rattle.cb_tree.specs.inner.Reads.{GoesInRow}
use Rattle.cb_tree.proofs.row.read_row.Given as goal

abbrev pub invariant-pieces : goal.invariant-pieces
invariant-pieces l = record {
  within : l.reach.len ≤ l.end;
  open_still : l.reach.ended ≡ false;
  no_feed : (k : ℕ) → k < l.reach.len → is_line_feed (slice_index l.bytes k) ≡ false;
  few : length l.tokens.items ≤ length l.initial.tokens.items + l.reach.len;
  goes : GoesInRow l.fn.spaced l.bytes l.initial.tokens.items l.tokens.items l.reach.spaced l.reach.len;
}

abbrev pub decreases-pieces : goal.decreases-pieces
decreases-pieces l = l.end - l.reach.len
