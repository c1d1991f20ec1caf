use Rattle.std.proofs.Common.{◌≡◌, ℕ, ◌+◌, ◌-◌, ◌<◌, ◌≤◌, false, length, slice_index}
use Rattle.cb_tokens.specs.inner.Scan.{ends_with}
use Rattle.cb_tokens.proofs.lanes.endless_to.Given as goal

abbrev pub invariant-lanes : goal.invariant-lanes
invariant-lanes l = record {
  within : (l.from ≤ l.at) × (l.at < length l.bytes);
  goes : (k : ℕ) → l.from ≤ k → k < l.at → ends_with (slice_index l.bytes k) (slice_index l.bytes (k + 1)) ≡ false;
}

abbrev pub decreases-lanes : goal.decreases-lanes
decreases-lanes l = length l.bytes - l.at
