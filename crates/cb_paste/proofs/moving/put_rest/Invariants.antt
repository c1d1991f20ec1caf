use Rattle.std.proofs.Common.{◌≡◌, ◌≤◌, ◌++◌, map}
use Rattle.std.specs.Vec.Iter.{into_iter_items, into_iter_len}
use Rattle.cb_paste.specs.inner.Slots.{token_count, as_slot}
use Rattle.cb_paste.proofs.moving.put_rest.Given as goal

abbrev pub invariant-tokens : goal.invariant-tokens
invariant-tokens l = record {
  put : l.slots ++ map as_slot (into_iter_items l.tokens) ≡ l.fn.slots ++ map as_slot (into_iter_items l.fn.tokens);
  fits : token_count l.slots ≤ l.room;
}

abbrev pub decreases-tokens : goal.decreases-tokens
decreases-tokens l = into_iter_len l.tokens
