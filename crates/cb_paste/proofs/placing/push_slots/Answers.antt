use Rattle.std.proofs.Common.{◌++◌, ◌∷◌, [], map, length, sym, subst, ◌∙◌, ap}
use Rattle.cb_paste.specs.Sets.{hides}
use Rattle.cb_paste.specs.Shades.{all_shaded, waiting}
use Rattle.cb_paste.specs.Joins.{reals}
use Rattle.cb_paste.specs.inner.Slots.{seen_slot, AreSlotsIn}
use Rattle.cb_paste.proofs.Arenas.{extends_length, extends_trans}
use Rattle.cb_paste.proofs.Standing.{slots_in_back, slots_in_front, slot_more}
use Rattle.cb_paste.proofs.Stacks.{stack_step}
use Rattle.cb_paste.proofs.placing.push_slots.Goals as goal

pub push_slot-requires-clause-slot : goal.push_slot-requires-clause-slot
push_slot-requires-clause-slot c =
    slot_more _ _ (extends_length c.slots.invariant.kept) c.in-Some.slot
    (slots_in_back _ c.pop.new.self (c.in-Some.slot ∷ []) (subst (λ l. AreSlotsIn (length c.args.arena.now) l) c.in-Some.ensures c.slots.invariant.slots)).0

pub slots-preserved : goal.slots-preserved
slots-preserved c =
    let split : AreSlotsIn (length c.args.arena.now) (c.pop.new.self ++ c.in-Some.slot ∷ []) = subst (λ l. AreSlotsIn (length c.args.arena.now) l) c.in-Some.ensures c.slots.invariant.slots in
    record {
      put = stack_step c.slots.invariant.kept c.args.extra c.requires.extra c.pop.new.self c.in-Some.slot (slots_in_back _ c.pop.new.self (c.in-Some.slot ∷ []) split).0 (waiting c.slots.arena c.slots.stack.items) (waiting c.push_slot.new.arena c.push_slot.new.stack.items) c.in_ok-push_slot.ensures.put
          ∙ (ap (λ l. all_shaded (hides c.args.arena.now c.args.extra) (reals (map (seen_slot c.args.arena.now) l)) ++ waiting c.slots.arena c.slots.stack.items) (sym c.in-Some.ensures) ∙ c.slots.invariant.put);
      slots = slots_in_front _ c.pop.new.self (c.in-Some.slot ∷ []) split;
      stack = c.in_ok-push_slot.ensures.within;
      kept = extends_trans c.slots.invariant.kept c.in_ok-push_slot.ensures.kept;
    }
