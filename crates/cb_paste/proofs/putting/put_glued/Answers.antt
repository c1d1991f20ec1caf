use Rattle.std.proofs.Common.{◌++◌, ◌∷◌, [], length, map, sym, subst, ◌∙◌, ap, arith}
use Rattle.std.proofs.lemmas.Result.{err_from_is_err_and}
use Rattle.cb_paste.specs.Joins.{onto_last, reals}
use Rattle.cb_paste.specs.inner.Slots.{seen_slot, AreSlotsIn}
use Rattle.cb_paste.specs.inner.Glued.{glued_slots}
use Rattle.cb_paste.proofs.Arenas.{extends_length}
use Rattle.cb_paste.proofs.Standing.{slots_in_back, slots_in_front, slots_in_append, slots_more}
use Rattle.cb_paste.proofs.Counts.{reals_count}
use Rattle.cb_paste.proofs.Copies.{glued_put}
use Rattle.cb_paste.proofs.putting.put_glued.Goals as goal

pub glue-requires-clause-left : goal.glue-requires-clause-left
glue-requires-clause-left c =
    (slots_in_back _ c.pop.new.self (c.in-Some.last ∷ []) (subst (λ l. AreSlotsIn (length c.args.arena.now) l) c.in-Some.ensures c.requires.stands)).0

pub returns-in_ok-push_glued-in-Some-clause-put : goal.returns-in_ok-push_glued-in-Some-clause-put
returns-in_ok-push_glued-in-Some-clause-put c =
    let front : AreSlotsIn (length c.args.arena.now) c.pop.new.self = slots_in_front _ c.pop.new.self (c.in-Some.last ∷ []) (subst (λ l. AreSlotsIn (length c.args.arena.now) l) c.in-Some.ensures c.requires.stands) in
    ap (λ l. map (seen_slot c.glue.new.arena) l) c.in_ok-push_glued-in-Some.ensures.put
    ∙ (glued_put c.in_ok-glued-in-Some.ensures.kept c.pop.new.self c.in-Some.last c.args.slot (glued_slots c.in_ok-glued-in-Some.glued) front c.in_ok-glued-in-Some.ensures.glued
    ∙ ap (λ l. onto_last (map (seen_slot c.args.arena.now) l) (seen_slot c.args.arena.now c.args.slot ∷ [])) (sym c.in-Some.ensures))

pub returns-in_err-push_glued-in-Some-clause-long : goal.returns-in_err-push_glued-in-Some-clause-long
returns-in_err-push_glued-in-Some-clause-long c =
    let p = err_from_is_err_and c.from_residual-in_err-push_glued-in-Some.result c.from_residual-in_err-push_glued-in-Some.ensures.1 in
    let front : AreSlotsIn (length c.args.arena.now) c.pop.new.self = slots_in_front _ c.pop.new.self (c.in-Some.last ∷ []) (subst (λ l. AreSlotsIn (length c.args.arena.now) l) c.in-Some.ensures c.requires.stands) in
    rw (p.1, p.2, c.in-Some.ensures)
    (λ e. omega
    (arith, c.in_err-push_glued-in-Some.ensures.long e, reals_count c.glue.new.arena (c.pop.new.self ++ glued_slots c.in_ok-glued-in-Some.glued), ap (λ l. length (reals l)) (glued_put c.in_ok-glued-in-Some.ensures.kept c.pop.new.self c.in-Some.last c.args.slot (glued_slots c.in_ok-glued-in-Some.glued) front c.in_ok-glued-in-Some.ensures.glued)))

pub returns-in_ok-push_glued-in-Some-clause-within : goal.returns-in_ok-push_glued-in-Some-clause-within
returns-in_ok-push_glued-in-Some-clause-within c =
    let front : AreSlotsIn (length c.args.arena.now) c.pop.new.self = slots_in_front _ c.pop.new.self (c.in-Some.last ∷ []) (subst (λ l. AreSlotsIn (length c.args.arena.now) l) c.in-Some.ensures c.requires.stands) in
    subst (λ l. AreSlotsIn (length c.glue.new.arena) l) (sym c.in_ok-push_glued-in-Some.ensures.put)
    (slots_in_append _ c.pop.new.self (glued_slots c.in_ok-glued-in-Some.glued) (slots_more _ _ (extends_length c.in_ok-glued-in-Some.ensures.kept) c.pop.new.self front) c.in_ok-glued-in-Some.ensures.within)
