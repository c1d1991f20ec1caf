use Rattle.std.proofs.Common.{◌≡◌, ℕ, ◌-◌, ◌<◌, ◌≤◌, true, length, slice_index}
use Rattle.cb_tokens.specs.Forms.{is_name_byte}
use Rattle.cb_tokens.proofs.runs.name_end.Given as goal

abbrev pub invariant-bytes : goal.invariant-bytes
invariant-bytes l = record {
  within : (l.from ≤ l.at) × (l.at ≤ length l.bytes);
  names : (k : ℕ) → l.from ≤ k → k < l.at → is_name_byte (slice_index l.bytes k) ≡ true;
}

abbrev pub decreases-bytes : goal.decreases-bytes
decreases-bytes l = length l.bytes - l.at
