use Rattle.std.proofs.Common.{◌≡◌, Err, length, map, refl, ap, arith}
use Rattle.std.proofs.lemmas.Result.{err_from_is_err_and}
use Rattle.cb_paste.specs.declared.fault.PasteFault.TheVariants.{TooLong}
use Rattle.cb_paste.specs.Joins.{reals}
use Rattle.cb_paste.specs.inner.Slots.{seen_slot}
use Rattle.cb_paste.proofs.Arenas.{extends_length}
use Rattle.cb_paste.proofs.Standing.{in_more}
use Rattle.cb_paste.proofs.Counts.{reals_count}
use Rattle.cb_paste.proofs.Placed.{placed}
use Rattle.cb_paste.proofs.substitution.put_joined.Goals as goal

pub returns-in_err-slots-clause-long : goal.returns-in_err-slots-clause-long
returns-in_err-slots-clause-long c =
    let p = err_from_is_err_and c.from_residual.result c.from_residual.ensures.1 in
    rw (p.1, p.2)
    (λ e. let fault : c.in_err-slots.field-0.0 ≡ TooLong = cc in
    (c.in_err-slots.ensures.long (ap Err fault), refl))

pub push_slots-requires-clause-stack : goal.push_slots-requires-clause-stack
push_slots-requires-clause-stack c =
    in_more _ _ (extends_length c.in_ok-slots.ensures.kept) c.args.stack.now.items c.requires.stack

pub returns-clause-put : goal.returns-clause-put
returns-clause-put c =
    placed c.in_ok-slots.ensures.kept c.args.site.hides c.requires.extra c.args.stack.now.items c.requires.stack (map (seen_slot c.put_all.new.arena) c.in_ok-slots.slots) _ c.in_ok-slots.ensures.put _ c.in_ok-push_slots.ensures.put

pub returns-clause-count : goal.returns-clause-count
returns-clause-count c =
    omega
    (arith, c.tokens-count.ensures, reals_count c.put_all.new.arena c.in_ok-slots.slots, ap (λ l. length (reals l)) c.in_ok-slots.ensures.put)
