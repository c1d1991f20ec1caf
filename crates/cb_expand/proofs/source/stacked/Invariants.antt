use Rattle.std.proofs.Common.{◌≡◌, ◌+◌, ◌≤◌, length, drop, map}
use Rattle.std.specs.Prelude.{reverse, vec_len, vec_capacity}
use Rattle.cb_expand.specs.inner.Sources.{as_read}
use Rattle.cb_expand.proofs.source.stacked.Given as goal

abbrev pub invariant-tokens : goal.invariant-tokens
invariant-tokens l = record {
  within : l.at ≤ length l.tokens;
  stacked : l.stack.items ≡ map as_read (reverse (drop l.at l.tokens));
  room : vec_len l.stack + l.at ≤ vec_capacity l.stack;
}

abbrev pub decreases-tokens : goal.decreases-tokens
decreases-tokens l = l.at
