use Rattle.std.proofs.Common.{◌≡◌, ◌==◌, ℕ, ◌-◌, ◌<◌, ◌≤◌, false, slice_index}
use Rattle.cb_tokens.specs.inner.Breaks.{IsPlainOf}
use Rattle.cb_tokens.proofs.plain.tokens_over.Given as goal

abbrev pub invariant-tokens : goal.invariant-tokens
invariant-tokens l = record {
  within : (l.from ≤ l.at) × (l.at < l.end);
  plain : IsPlainOf l.bytes l.from → IsPlainOf l.bytes l.at;
  no_feed : ((k : ℕ) → k < l.from → (slice_index l.bytes k == 10) ≡ false) → (k : ℕ) → k < l.at → (slice_index l.bytes k == 10) ≡ false;
  line : slice_index l.bytes l.from ≡ 10 → l.at ≡ l.from;
}

abbrev pub decreases-tokens : goal.decreases-tokens
decreases-tokens l = l.end - l.at
