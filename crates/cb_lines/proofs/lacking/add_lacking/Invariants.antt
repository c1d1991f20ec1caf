use Rattle.std.proofs.Common.{◌≡◌, ◌-◌, ◌≤◌, ℕ, ◌||◌, ◌&&◌, not}
use Rattle.std.specs.List.{range_with_len}
use Rattle.cb_lines.specs.Lines.{has_line}
use Rattle.cb_lines.proofs.lacking.add_lacking.Given as goal

abbrev pub invariant-stretches : goal.invariant-stretches
invariant-stretches l = record {
  from : l.span.first ≤ l.first;
  within : l.first ≤ l.span.last;
  members : (line : ℕ) → has_line l.lines line ≡ (has_line l.fn.lines line || (has_line (range_with_len l.span.first (l.first - l.span.first)) line && not (has_line l.other line)));
}

abbrev pub decreases-stretches : goal.decreases-stretches
decreases-stretches l = l.span.last - l.first
