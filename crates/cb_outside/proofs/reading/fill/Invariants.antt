use Rattle.std.proofs.Common.{◌-◌, ◌≡◌, ◌≤◌, take, vec_len, vec_capacity}
use Rattle.std.specs.Io.KnownBytes.{Consumes}
use Rattle.cb_outside.proofs.reading.fill.Given as goal

abbrev pub invariant-reads : goal.invariant-reads
invariant-reads g l = record {
  within : l.filled ≤ l.limit;
  filled : l.filled ≤ vec_len l.bytes;
  bound : vec_len l.bytes ≤ l.limit;
  room : l.limit ≤ vec_capacity l.bytes;
  kept : g.R.Source.faults l.source ≡ g.R.Source.faults l.initial.source;
  content : Consumes (g.R.Source.left l.initial.source) (g.R.Source.left l.source) (take l.filled l.bytes.items);
}

abbrev pub decreases-reads : goal.decreases-reads
decreases-reads g l = l.limit - l.filled
