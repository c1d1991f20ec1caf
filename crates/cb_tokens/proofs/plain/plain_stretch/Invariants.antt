use Rattle.std.proofs.Common.{◌≡◌, ◌⊎◌, ◌==◌, ℕ, ◌-◌, ◌<◌, ◌≤◌, false, slice_index}
use Rattle.cb_tokens.specs.Plain.{IsQuietEnd}
use Rattle.cb_tokens.specs.inner.Breaks.{IsPlainOf}
use Rattle.cb_tokens.proofs.plain.plain_stretch.Given as goal

abbrev pub invariant-runs : goal.invariant-runs
invariant-runs l = record {
  inside : l.at < l.end;
  plain : IsPlainOf l.bytes l.at;
  goes : (n : ℕ) → n < l.end → IsQuietEnd l.bytes n → (l.at ≡ 0) ⊎ (n ≤ l.at);
  no_feed : (k : ℕ) → k < l.at → (slice_index l.bytes k == 10) ≡ false;
}

abbrev pub decreases-runs : goal.decreases-runs
decreases-runs l = l.end - l.at
