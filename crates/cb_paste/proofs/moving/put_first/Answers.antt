use Rattle.std.proofs.Common.{◌≡◌, ◌++◌, ◌∷◌, [], length, map, sym, subst, ◌∙◌, ap, arith, length-append}
use Rattle.std.proofs.lemmas.Result.{err_from_is_err_and}
use Rattle.std.specs.Vec.Iter.{into_iter_items}
use Rattle.cb_paste.specs.Shades.{seen, spaced_as}
use Rattle.cb_paste.specs.Joins.{Real, reals}
use Rattle.cb_paste.specs.Puts.{put_one}
use Rattle.cb_paste.specs.inner.Slots.{seen_slot, as_slot, AreSlotsIn}
use Rattle.cb_paste.proofs.Arenas.{extends_length}
use Rattle.cb_paste.proofs.Standing.{in_more, slots_in_append, as_slots_in}
use Rattle.cb_paste.proofs.Counts.{reals-append, reals_count, put_more}
use Rattle.cb_paste.proofs.Copies.{rest_put}
use Rattle.cb_paste.proofs.moving.put_first.Goals as goal

pub returns-in_err-put-clause-long : goal.returns-in_err-put-clause-long
returns-in_err-put-clause-long c =
    let p = err_from_is_err_and c.from_residual.result c.from_residual.ensures.1 in
    let slot : seen_slot c.args.arena.now c.into_slot-slot.result ≡ Real (spaced_as c.args.part.now.spaced (seen c.args.arena.now c.args.first)) =
    ap (λ s. seen_slot c.args.arena.now s) c.into_slot-slot.ensures
    ∙ ap (λ t. Real (seen c.args.arena.now t)) (c.with_space.ensures) in
    let first = put_one (map (seen_slot c.args.arena.now) c.args.slots.now) c.args.part.now.glued (Real (spaced_as c.args.part.now.spaced (seen c.args.arena.now c.args.first)) ∷ []) in
    let rest = map Real (map (seen c.args.arena.now) (into_iter_items c.args.rest)) in
    rw (p.1, p.2)
    (λ e. omega
    (arith, c.in_err-put.ensures.long e, ap (λ s. length (reals (put_one (map (seen_slot c.args.arena.now) c.args.slots.now) c.args.part.now.glued (s ∷ [])))) slot, ap (λ l. length (reals l)) (put_more (map (seen_slot c.args.arena.now) c.args.slots.now) c.args.part.now.glued (Real (spaced_as c.args.part.now.spaced (seen c.args.arena.now c.args.first))) rest), ap length (reals-append first rest), length-append (reals first) (reals rest)))

pub returns-in_err-put_rest-clause-long : goal.returns-in_err-put_rest-clause-long
returns-in_err-put_rest-clause-long c =
    let p = err_from_is_err_and c.from_residual-in_err-put_rest.result c.from_residual-in_err-put_rest.ensures.1 in
    let slot : seen_slot c.args.arena.now c.into_slot-slot.result ≡ Real (spaced_as c.args.part.now.spaced (seen c.args.arena.now c.args.first)) =
    ap (λ s. seen_slot c.args.arena.now s) c.into_slot-slot.ensures
    ∙ ap (λ t. Real (seen c.args.arena.now t)) (c.with_space.ensures) in
    let put = rest_put c.in_ok-put.ensures.kept c.put.new.slots (map (seen_slot c.args.arena.now) c.args.slots.now) c.args.part.now.glued c.args.part.now.spaced c.args.first (into_iter_items c.args.rest) c.requires.new.1 (c.in_ok-put.ensures.put ∙ ap (λ s. put_one (map (seen_slot c.args.arena.now) c.args.slots.now) c.args.part.now.glued (s ∷ [])) slot) in
    rw (p.1, p.2)
    (λ e. omega
    (arith, c.in_err-put_rest.ensures.long e, reals_count c.put.new.arena (c.put.new.slots ++ map as_slot (into_iter_items c.args.rest)), ap (λ l. length (reals l)) put))

pub returns-clause-put : goal.returns-clause-put
returns-clause-put c =
    let slot : seen_slot c.args.arena.now c.into_slot-slot.result ≡ Real (spaced_as c.args.part.now.spaced (seen c.args.arena.now c.args.first)) =
    ap (λ s. seen_slot c.args.arena.now s) c.into_slot-slot.ensures
    ∙ ap (λ t. Real (seen c.args.arena.now t)) (c.with_space.ensures) in
    ap (λ l. map (seen_slot c.put.new.arena) l) c.in_ok-put_rest.ensures.put
    ∙ rest_put c.in_ok-put.ensures.kept c.put.new.slots (map (seen_slot c.args.arena.now) c.args.slots.now) c.args.part.now.glued c.args.part.now.spaced c.args.first (into_iter_items c.args.rest) c.requires.new.1 (c.in_ok-put.ensures.put ∙ ap (λ s. put_one (map (seen_slot c.args.arena.now) c.args.slots.now) c.args.part.now.glued (s ∷ [])) slot)

pub returns-clause-within : goal.returns-clause-within
returns-clause-within c =
    subst (λ l. AreSlotsIn (length c.put.new.arena) l) (sym c.in_ok-put_rest.ensures.put)
    (slots_in_append _ c.put.new.slots (map as_slot (into_iter_items c.args.rest)) c.in_ok-put.ensures.within
    (as_slots_in _ (into_iter_items c.args.rest) (in_more _ _ (extends_length c.in_ok-put.ensures.kept) (into_iter_items c.args.rest) c.requires.new.1)))
