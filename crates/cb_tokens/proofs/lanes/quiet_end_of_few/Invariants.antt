use Rattle.std.proofs.Common.{◌≡◌, ℕ, ◌-◌, ◌<◌, ◌≤◌, true, slice_index}
use Rattle.cb_tokens.specs.Plain.{is_quiet}
use Rattle.cb_tokens.proofs.lanes.quiet_end_of_few.Given as goal

abbrev pub invariant-bytes : goal.invariant-bytes
invariant-bytes l = record {
  from : l.from ≤ l.at;
  end : l.at ≤ l.end;
  quiet : (k : ℕ) → l.from ≤ k → k < l.at → is_quiet (slice_index l.bytes k) ≡ true;
}

abbrev pub decreases-bytes : goal.decreases-bytes
decreases-bytes l = l.end - l.at
