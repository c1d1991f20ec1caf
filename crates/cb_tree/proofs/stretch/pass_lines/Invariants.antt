use Rattle.std.proofs.Common.{◌+◌, ◌≤◌, List, length}
use Rattle.cb_lines.specs.declared.mark.Mark.{Mark}
use Rattle.cb_tree.specs.inner.Reads.{ReadsRun}
use Rattle.cb_tree.proofs.stretch.pass_lines.Given as goal

abbrev pub invariant-lines : goal.invariant-lines
invariant-lines l = record {
  goes : (ms : List Mark) → ReadsRun ms l.fn.place l.fn.counted l.fn.walk → ReadsRun ms l.place l.counted l.walk;
  shorter : length l.walk ≤ length l.fn.walk;
  few : length l.counted + length l.walk ≤ length l.fn.counted + length l.fn.walk;
}

abbrev pub decreases-lines : goal.decreases-lines
decreases-lines l = length l.walk
