use Rattle.std.proofs.Common.{◌+◌, ◌≤◌, List, length}
use Rattle.cb_lines.specs.declared.mark.Mark.{Mark}
use Rattle.cb_tree.specs.inner.Reads.{ReadsRun}
use Rattle.cb_tree.proofs.run.read_lines.Given as goal

abbrev pub invariant-pieces : goal.invariant-pieces
invariant-pieces l = record {
  goes : (ms : List Mark) → ReadsRun ms l.fn.place l.fn.known l.fn.walk → ReadsRun ms l.place l.counted l.walk;
  shorter : length l.walk ≤ length l.fn.walk;
  few : length l.counted + length l.walk ≤ length l.fn.known + length l.fn.walk;
}

abbrev pub decreases-pieces : goal.decreases-pieces
decreases-pieces l = length l.walk
