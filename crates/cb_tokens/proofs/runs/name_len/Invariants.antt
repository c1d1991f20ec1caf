use Rattle.std.proofs.Common.{◌≡◌, ℕ, ◌-◌, ◌<◌, ◌≤◌, true, length, slice_index}
use Rattle.cb_tokens.specs.Forms.{is_name_byte}
use Rattle.cb_tokens.proofs.runs.name_len.Given as goal

abbrev pub invariant-lanes : goal.invariant-lanes
invariant-lanes l = record {
  within : l.at ≤ length l.bytes;
  names : (k : ℕ) → 0 ≤ k → k < l.at → is_name_byte (slice_index l.bytes k) ≡ true;
}

abbrev pub decreases-lanes : goal.decreases-lanes
decreases-lanes l = length l.bytes - l.at
