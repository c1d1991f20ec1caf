use Rattle.std.proofs.Common.{◌≡◌, ◌+◌, ◌++◌, ◌∷◌, [], map, take, ◌∙◌, ap, arith}
use Rattle.std.proofs.lemmas.Result.{err_from_is_err_and}
use Rattle.cb_paste.specs.inner.Slots.{token_count, as_slot}
use Rattle.cb_paste.proofs.Copies.{as_more, as_few}
use Rattle.cb_paste.proofs.copying.put_tokens.Goals as goal

pub returns-in_err-push-clause-long : goal.returns-in_err-push-clause-long
returns-in_err-push-clause-long c =
    let p = err_from_is_err_and c.from_residual-in_err-push.result c.from_residual-in_err-push.ensures.1 in
    let pushed : c.tokens.slots ++ c.into_slot.result ∷ [] ≡ c.args.slots.now ++ map as_slot (take (c.tokens.at + 1) c.args.tokens.now) =
    ap (λ s. c.tokens.slots ++ s ∷ []) (c.into_slot.ensures ∙ ap as_slot c.in_ok-token.ensures)
    ∙ (ap (λ l. l ++ as_slot c.index-tokens-at.result ∷ []) c.tokens.invariant.put
    ∙ as_more c.args.slots.now c.args.tokens.now c.tokens.at c.index-tokens-at.result c.tokens-test.true c.index-tokens-at.is) in
    rw (p.1, p.2)
    (λ e. omega (arith, c.in_err-push.ensures.long e, ap token_count pushed, as_few c.args.slots.now c.args.tokens.now (c.tokens.at + 1)))
