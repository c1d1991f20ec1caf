use Rattle.std.proofs.Common.{◌≡◌, ◌≤◌, [], map, drop, length}
use Rattle.cb_paste.specs.Sets.{Extends}
use Rattle.cb_paste.specs.Puts.{seen_argument, put_from}
use Rattle.cb_paste.specs.inner.Slots.{token_count, seen_slot, AreSlotsIn}
use Rattle.cb_paste.specs.inner.Uses.{is_used, Kept}
use Rattle.cb_paste.proofs.filling.put_all.Given as goal

abbrev pub invariant-parts : goal.invariant-parts
invariant-parts l = record {
  put : put_from (map (seen_argument l.fn.arena) l.fn.arguments) (map (seen_slot l.arena) l.slots) (drop l.at l.parts)
      ≡ put_from (map (seen_argument l.fn.arena) l.fn.arguments) [] l.parts;
  within : AreSlotsIn (length l.arena) l.slots;
  fits : token_count l.slots ≤ l.room;
  others : Kept (is_used (drop l.at l.parts)) l.fn.arguments l.arguments;
  kept : Extends l.fn.arena l.arena;
}
