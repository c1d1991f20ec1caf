use Rattle.std.proofs.Common.{◌≡◌, ◌<◌, ℕ, false, get_or}
use Rattle.cb_lines.specs.Marks.{is_line_feed}
use Rattle.cb_lines.proofs.walking.bytes_to_feed.Given as goal

abbrev pub invariant-loop-i : goal.invariant-loop-i
invariant-loop-i l = (k : ℕ) → k < l.i → is_line_feed (get_or l.bytes k 0) ≡ false
