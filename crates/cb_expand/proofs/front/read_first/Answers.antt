use Rattle.std.proofs.Common.{[], ◌∷◌, ap, sym, ◌∙◌, subst, arith}
use Rattle.std.proofs.lemmas.List.{take_rest, append-nil}
use Rattle.cb_tokens.specs.declared.token.Token.{Token}
use Rattle.cb_tokens.specs.declared.token.TokenKind.TheVariants as kinds
use Rattle.cb_expand.specs.Expansion.{bare}
use Rattle.cb_expand.specs.Heads.{answer_token}
use Rattle.cb_expand.specs.inner.Fronts.{WasPut, AreRead}
use Rattle.cb_expand.proofs.Fronts.{none_read, first_read, front_put}
use Rattle.cb_expand.proofs.front.read_first.Goals as goal

pub returns-in_ok-push-in-Stays-clause-read : goal.returns-in_ok-push-in-Stays-clause-read
returns-in_ok-push-in-Stays-clause-read c =
    let ts = c.args.tokens.now in
    let t = c.index-tokens-0.result in
    let v = c.in_ok-copy-in-Stays.field-0 in (
      v ∷ [],
      c.in_ok-push-in-Stays.ensures.added,
      first_read c.args.macros.now c.args.mode ts _ t v (bare t) 0 c.requires c.index-tokens-0.is (take_rest ts 1) (omega arith) (sym c.in_ok-copy-in-Stays.ensures) c.in-Stays.ensures,
    )

pub returns-in_ok-push-in-Asks-clause-read : goal.returns-in_ok-push-in-Asks-clause-read
returns-in_ok-push-in-Asks-clause-read c =
    let ms = c.args.macros.now in
    let ts = c.args.tokens.now in
    let t = c.index-tokens-0.result in
    let n = c.in-Asks.count in
    let v : Token = record { kind = kinds.Number; spaced = t.spaced; text = c.in_ok-text-in-Asks.text } in
    let p = ap (λ text. let v : Token = record { kind = kinds.Number; spaced = t.spaced; text = text } in v) (sym c.in_ok-text-in-Asks.ensures) in
    let r = first_read ms c.args.mode ts _ t v (answer_token (bare t) c.in-Asks.is_defined) n c.requires c.index-tokens-0.is (take_rest ts 1) c.in-Asks.ensures.0 p c.in-Asks.ensures.1 in
    (v ∷ [], c.in_ok-push-in-Asks.ensures.added, subst (λ k. AreRead ms c.args.mode ts k (v ∷ []) 0) (omega arith) r)

pub returns-then-room-lt-COST_OF_ONE-clause-read : goal.returns-then-room-lt-COST_OF_ONE-clause-read
returns-then-room-lt-COST_OF_ONE-clause-read c = ([], sym (append-nil c.args.out.now), none_read c.args.macros.now c.args.mode c.args.tokens.now)

pub returns-then-not-was_put-clause-read : goal.returns-then-not-was_put-clause-read
returns-then-not-was_put-clause-read c =
    let w = subst (λ b. WasPut c.args.macros.now c.in-Names.place c.index-tokens-0.result.spaced c.args.out.now c.put_name.new.out b) c.if-not-was_put.true c.in_ok-was_put-in-Names.ensures in
    ([], w ∙ sym (append-nil c.args.out.now), none_read c.args.macros.now c.args.mode c.args.tokens.now)

pub returns-else-not-was_put-clause-read : goal.returns-else-not-was_put-clause-read
returns-else-not-was_put-clause-read c =
    let ms = c.args.macros.now in
    let ts = c.args.tokens.now in
    let t = c.index-tokens-0.result in
    let place = c.in-Names.place in
    let w = subst (λ b. WasPut ms place t.spaced c.args.out.now c.put_name.new.out b) c.if-not-was_put.false c.in_ok-was_put-in-Names.ensures in
    (w.0 ∷ [], w.1, front_put ms c.args.mode ts _ t w.0 place c.requires c.index-tokens-0.is (take_rest ts 1) c.in-Names.ensures.1 w.3 w.2)
