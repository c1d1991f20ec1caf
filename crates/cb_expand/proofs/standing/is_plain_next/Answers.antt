use Rattle.std.proofs.Common.{◌≡◌, ◌∷◌, [], ◌-◌, length, get_or, ap, sym, ◌∙◌, arith, false, rules, length-append}
use Rattle.std.proofs.lemmas.List.{get_or_push}
use Rattle.cb_tokens.specs.Kinds.{is_identifier_kind}
use Rattle.cb_paste.specs.declared.work_token.WorkToken.{WorkToken}
use Rattle.cb_expand.proofs.standing.is_plain_next.Goals as goal

pub returns : goal.returns
returns c = λ y. (
  omega (arith, c.if-height-work.false, c.len-height.ensures, c.args.work.now.row.tokens.ok.0),
  λ t ts e.
      let x = c.index.result.now in
      let k : is_identifier_kind x.kind ≡ false = search rules in
      let n : length ts ≡ c.len-height.result - 1 = omega (arith, c.len-height.ensures, c.args.work.now.row.tokens.ok.0, ap length e, length-append ts (t ∷ [])) in
      let same : x ≡ t = c.index.ensures ∙ (ap (λ us. get_or us (c.len-height.result - 1) x) e ∙ get_or_push ts t x (c.len-height.result - 1) n) in
      ap (λ (t : WorkToken). is_identifier_kind t.kind) (sym same) ∙ k,
)
