use Rattle.std.proofs.Common.{◌≡◌, ◌++◌, map, length}
use Rattle.cb_paste.specs.Sets.{hides, Extends}
use Rattle.cb_paste.specs.Shades.{waiting, all_shaded, AreIn}
use Rattle.cb_paste.specs.Joins.{reals}
use Rattle.cb_paste.specs.inner.Slots.{seen_slot, AreSlotsIn}
use Rattle.cb_paste.proofs.placing.push_slots.Given as goal

abbrev pub invariant-slots : goal.invariant-slots
invariant-slots l = record {
  put : all_shaded (hides l.fn.arena l.extra) (reals (map (seen_slot l.fn.arena) l.slots)) ++ waiting l.arena l.stack.items
      ≡ all_shaded (hides l.fn.arena l.extra) (reals (map (seen_slot l.fn.arena) l.fn.slots)) ++ waiting l.fn.arena l.fn.stack.items;
  slots : AreSlotsIn (length l.fn.arena) l.slots;
  stack : AreIn (length l.arena) l.stack.items;
  kept : Extends l.fn.arena l.arena;
}

abbrev pub decreases-slots : goal.decreases-slots
decreases-slots l = length l.slots
