use Rattle.std.proofs.Common.{◌≡◌, ℕ, ◌-◌, ◌<◌, ◌≤◌, true, slice_index}
use Rattle.cb_tokens.specs.Plain.{is_quiet}
use Rattle.cb_tokens.proofs.lanes.quiet_end.Given as goal

abbrev pub invariant-lanes : goal.invariant-lanes
invariant-lanes l = record {
  from : l.from ≤ l.at;
  quiet : (k : ℕ) → l.from ≤ k → k < l.at → is_quiet (slice_index l.bytes k) ≡ true;
}

abbrev pub decreases-lanes : goal.decreases-lanes
decreases-lanes l = l.end - l.at
