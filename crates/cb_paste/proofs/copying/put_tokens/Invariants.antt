use Rattle.std.proofs.Common.{◌≡◌, ◌≤◌, ◌++◌, map, take}
use Rattle.cb_paste.specs.inner.Slots.{token_count, as_slot}
use Rattle.cb_paste.proofs.copying.put_tokens.Given as goal

abbrev pub invariant-tokens : goal.invariant-tokens
invariant-tokens l = record {
  put : l.slots ≡ l.fn.slots ++ map as_slot (take l.at l.tokens);
  fits : token_count l.slots ≤ l.room;
}
