use Rattle.std.proofs.Common.{◌++◌, ◌∷◌, [], length, sym, subst, ap, arith}
use Rattle.std.proofs.lemmas.List.{map_push}
use Rattle.std.proofs.lemmas.Result.{err_from_is_err_and}
use Rattle.cb_paste.specs.Joins.{reals}
use Rattle.cb_paste.specs.inner.Slots.{seen_slot, AreSlotsIn}
use Rattle.cb_paste.proofs.Standing.{slots_in_append}
use Rattle.cb_paste.proofs.Counts.{reals_count}
use Rattle.cb_paste.proofs.putting.put.Goals as goal

pub returns-in_err-push-clause-long : goal.returns-in_err-push-clause-long
returns-in_err-push-clause-long c =
    let p = err_from_is_err_and c.from_residual-in_err-push.result c.from_residual-in_err-push.ensures.1 in
    rw (p.1, p.2, c.if-glued.false)
    (λ e. omega
    (arith, c.in_err-push.ensures.long e, reals_count c.args.arena.now (c.args.slots.now ++ c.args.slot ∷ []), ap (λ l. length (reals l)) (map_push (seen_slot c.args.arena.now) c.args.slots.now c.args.slot)))

pub returns-clause-within : goal.returns-clause-within
returns-clause-within c =
    subst (λ l. AreSlotsIn (length c.args.arena.now) l) (sym c.in_ok-push.ensures.put)
    (slots_in_append _ c.args.slots.now (c.args.slot ∷ []) c.requires.stands (c.requires.new, tt))
