use Rattle.std.proofs.Common.{◌++◌, List, length, map, refl, ap, sym, ◌∙◌, subst}
use Rattle.std.proofs.lemmas.List.{take_rest}
use Rattle.std.proofs.lemmas.Result.{err_from_is_err_and}
use Rattle.cb_tokens.specs.declared.token.Token.{Token}
use Rattle.cb_expand.specs.Expansion.{IsReplacement}
use Rattle.cb_expand.specs.inner.Sources.{as_token}
use Rattle.cb_expand.proofs.Fronts.{all_read, rest_replaced, rest_too_dear}
use Rattle.cb_expand.proofs.Resuming.{same_fault}
use Rattle.cb_expand.proofs.Runs.{ended, too_dear}
use Rattle.cb_expand.proofs.expansion.expand.Goals as goal

pub run-requires : goal.run-requires
run-requires c = c.in_ok-work.ensures.work (length c.args.macros.now)

pub returns-then-front-tokens-clause-tokens : goal.returns-then-front-tokens-clause-tokens
returns-then-front-tokens-clause-tokens c =
    all_read c.args.macros.now c.args.mode c.args.tokens.now c.in_ok-front.front.count c.read_front.new.out c.in_ok-front.front.paid c.in_ok-front.ensures.read c.if-front-tokens.true c.in_ok-front.ensures.limit

pub returns-in_err-run-clause-long : goal.returns-in_err-run-clause-long
returns-in_err-run-clause-long c = λ q.
    let ms = c.args.macros.now in
    let ts = c.args.tokens.now in
    let p = err_from_is_err_and c.from_residual-in_err-run.result c.from_residual-in_err-run.ensures.1 in
    rest_too_dear ms c.args.mode ts _ c.in_ok-front.front.count c.read_front.new.out c.in_ok-front.front.paid c.in_ok-front.ensures.read (take_rest ts c.in_ok-front.front.count)
    (too_dear ms c.args.mode _ c.in_ok-front.front.paid c.in_ok-work.work c.in_ok-work.ensures (c.run.ensures.long (same_fault _ _ _ _ c.in_err-run.was p.1 p.2 q)))

pub returns-clause-tokens : goal.returns-clause-tokens
returns-clause-tokens c =
    let ms = c.args.macros.now in
    let mode = c.args.mode in
    let ts = c.args.tokens.now in
    let out = c.read_front.new.out in
    let more : List Token = map as_token c.run.new.work.done.items in
    let r = ended ms mode _ c.in_ok-front.front.paid c.in_ok-work.work c.run.new.work c.in_ok-work.ensures c.in_ok-run.ensures.ran more refl in
    let s = rest_replaced ms mode ts _ c.in_ok-front.front.count out c.in_ok-front.front.paid c.in_ok-front.ensures.read (take_rest ts c.in_ok-front.front.count) more r in
    subst (λ (out : List Token). IsReplacement ms mode ts out) (sym (c.in_ok-all.ensures ∙ ap (λ v. out ++ map as_token v.items) c.done_of.ensures)) s
