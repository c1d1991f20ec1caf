use Rattle.std.proofs.Common.{◌++◌, ◌∷◌, [], ap, arith}
use Rattle.std.proofs.lemmas.Result.{err_from_is_err_and}
use Rattle.cb_paste.specs.inner.Slots.{token_count}
use Rattle.cb_paste.specs.inner.Glued.{glued_slots}
use Rattle.cb_paste.proofs.Standing.{token_count-append}
use Rattle.cb_paste.proofs.putting.push_glued.Goals as goal

pub returns-in_err-push-in-Two-clause-long : goal.returns-in_err-push-in-Two-clause-long
returns-in_err-push-in-Two-clause-long c =
    let p = err_from_is_err_and c.from_residual-in_err-push-in-Two.result c.from_residual-in_err-push-in-Two.ensures.1 in
    rw (p.1, p.2)
    (λ e. omega
    (arith, c.in_err-push-in-Two.ensures.long e, ap (λ g. token_count (c.args.slots.now ++ glued_slots g)) c.in-Two.is, token_count-append c.args.slots.now (c.in-Two.left ∷ []), token_count-append c.args.slots.now (c.in-Two.left ∷ c.in-Two.right ∷ []), token_count-append (c.in-Two.left ∷ []) (c.in-Two.right ∷ [])))
