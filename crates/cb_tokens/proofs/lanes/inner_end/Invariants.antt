use Rattle.std.proofs.Common.{◌≡◌, ℕ, ◌-◌, ◌<◌, ◌≤◌, true, length, slice_index}
use Rattle.cb_tokens.specs.inner.Scan.{is_inner}
use Rattle.cb_tokens.proofs.lanes.inner_end.Given as goal

abbrev pub invariant-lanes : goal.invariant-lanes
invariant-lanes l = record {
  within : (l.from ≤ l.at) × (l.at < length l.bytes);
  inner : (k : ℕ) → l.from ≤ k → k < l.at → is_inner l.quote (slice_index l.bytes k) ≡ true;
}

abbrev pub decreases-lanes : goal.decreases-lanes
decreases-lanes l = length l.bytes - l.at
