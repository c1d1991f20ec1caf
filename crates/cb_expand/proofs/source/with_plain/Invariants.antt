use Rattle.std.proofs.Common.{◌≡◌, ◌+◌, ◌≤◌, ◌++◌, map}
use Rattle.std.specs.Prelude.{vec_len, vec_capacity}
use Rattle.std.specs.Vec.Iter.{into_iter_len}
use Rattle.cb_expand.specs.inner.Sources.{as_token}
use Rattle.cb_expand.proofs.source.with_plain.Given as goal

abbrev pub invariant-tokens : goal.invariant-tokens
invariant-tokens l = record {
  plain : l.all.items ≡ l.fn.front ++ map as_token l.yielded;
  room : vec_len l.all + into_iter_len l.token-iterator ≤ vec_capacity l.all;
}
