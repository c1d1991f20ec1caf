use Rattle.std.proofs.Common.{◌≡◌, ◌-◌, ◌≤◌, length}
use Rattle.cb_lines.specs.Marks.{line_at, marks_from}
use Rattle.cb_lines.proofs.reading.Marker.next.Given as goal

abbrev pub invariant-positions : goal.invariant-positions
invariant-positions l = record {
  same : l.self-inside.source.now ≡ l.source;
  within : l.at ≤ length l.source;
  line : l.line ≡ line_at l.source l.at;
  marks : marks_from l.source l.at ≡ marks_from l.initial.source l.initial.at;
}

abbrev pub decreases-positions : goal.decreases-positions
decreases-positions l = length l.source - l.at
