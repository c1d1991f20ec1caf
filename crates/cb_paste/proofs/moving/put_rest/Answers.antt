use Rattle.std.proofs.Common.{◌++◌, ◌∷◌, [], map, sym, ◌∙◌, ap, arith}
use Rattle.std.specs.Vec.Iter.{into_iter_items}
use Rattle.std.proofs.lemmas.Result.{err_from_is_err_and}
use Rattle.cb_paste.specs.inner.Slots.{token_count, as_slot}
use Rattle.cb_paste.proofs.Copies.{front_few}
use Rattle.cb_paste.proofs.moving.put_rest.Goals as goal

pub returns-in_err-push-clause-long : goal.returns-in_err-push-clause-long
returns-in_err-push-clause-long c =
    let p = err_from_is_err_and c.from_residual.result c.from_residual.ensures.1 in
    let split = ap (λ l. c.tokens.slots ++ map as_slot l) c.in-Some.ensures.cases.0 in
    rw (p.1, p.2)
    (λ e. omega
    (arith, c.in_err-push.ensures.long e, ap (λ s. token_count (c.tokens.slots ++ s ∷ [])) c.into_slot.ensures, front_few c.tokens.slots c.in-Some.token (into_iter_items c.next.new.self), ap token_count (sym split ∙ c.tokens.invariant.put)))
