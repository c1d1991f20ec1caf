use Rattle.std.proofs.Common.{length, ◌-◌, ◌≡◌, ◌≤◌, take}
use Rattle.std.specs.Io.KnownBytes.{Appends}
use Rattle.cb_outside.proofs.sink.put_all.Given as goal

abbrev pub invariant-writes : goal.invariant-writes
invariant-writes g l = record {
  within : l.done ≤ length l.bytes;
  kept : g.W.Sink.faults l.sink ≡ g.W.Sink.faults l.initial.sink;
  done : Appends (g.W.Sink.taken l.initial.sink) (g.W.Sink.taken l.sink) (take l.done l.bytes);
}

abbrev pub decreases-writes : goal.decreases-writes
decreases-writes g l = length l.bytes - l.done
