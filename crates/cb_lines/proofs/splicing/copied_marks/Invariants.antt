use Rattle.std.proofs.Common.{◌-◌, ◌≤◌, length}
use Rattle.cb_lines.proofs.Kept.{Kept}
use Rattle.cb_lines.proofs.splicing.copied_marks.Given as goal

abbrev pub invariant-pieces : goal.invariant-pieces
invariant-pieces l = record {
  within : l.at ≤ length l.source;
  kept : Kept l.source l.at l.bytes.items l.splices.items;
}

abbrev pub decreases-pieces : goal.decreases-pieces
decreases-pieces l = length l.source - l.at
