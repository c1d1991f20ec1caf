use Rattle.std.proofs.Common.{◌≡◌, ◌-◌, length, ap, sym, ◌∙◌, arith, true, false, rules, Some}
use Rattle.std.proofs.lemmas.List.{get_or_default}
use Rattle.cb_tokens.specs.Kinds.{is_identifier_kind}
use Rattle.cb_paste.specs.declared.work_token.WorkToken.{WorkToken}
use Rattle.cb_expand.specs.Arguments.{sign, is_open, is_close}
use Rattle.cb_expand.specs.Heads.{asked_of}
use Rattle.cb_expand.specs.inner.Rows.{between}
use Rattle.cb_expand.specs.inner.Works.{seen_all}
use Rattle.cb_expand.proofs.ByEnds.{asked_three, three_tops}
use Rattle.cb_expand.proofs.asking.asked_name.Goals as goal

pub returns-then-not-is_close-clause-asked : goal.returns-then-not-is_close-clause-asked
returns-then-not-is_close-clause-asked c = λ sets.
    let p = c.index-tokens-height.result in
    let x = c.index-tokens-height-2.result in
    let d = c.index-tokens-height-3.result in
    let n = length c.args.tokens.now in
    let e : is_identifier_kind p.kind ≡ false = sym c.is_identifier.ensures ∙ c.if-is_identifier.false in
    let o : is_open (sign p.kind p.text) ≡ true = search rules in
    let i : is_identifier_kind x.kind ≡ true = search rules in
    let k : is_close (sign d.kind d.text) ≡ false = search rules in
    ap asked_of (three_tops sets c.args.tokens.now c.args.floor n p x d (omega (arith, c.if-height-floor-lt3.false, c.requires)) (omega arith) c.index-tokens-height.is c.index-tokens-height-2.is c.index-tokens-height-3.is)
    ∙ asked_three sets p x d _ false e o i k

pub returns-clause-asked : goal.returns-clause-asked
returns-clause-asked c = λ sets name at.
    let p = c.index-tokens-height.result in
    let x = c.index-tokens-height-2.result in
    let d = c.index-tokens-height-3.result in
    let n = length c.args.tokens.now in
    let e : is_identifier_kind p.kind ≡ false = sym c.is_identifier.ensures ∙ c.if-is_identifier.false in
    let o : is_open (sign p.kind p.text) ≡ true = search rules in
    let i : is_identifier_kind x.kind ≡ true = search rules in
    let k : is_close (sign d.kind d.text) ≡ true = search rules in
    let same : x ≡ name = c.index-tokens-height-2.is ∙ (get_or_default c.args.tokens.now (n - 2) x name (omega (arith, c.if-height-floor-lt3.false)) ∙ at) in
    ap asked_of (three_tops sets c.args.tokens.now c.args.floor n p x d (omega (arith, c.if-height-floor-lt3.false, c.requires)) (omega arith) c.index-tokens-height.is c.index-tokens-height-2.is c.index-tokens-height-3.is)
    ∙ (asked_three sets p x d _ true e o i k
    ∙ ap (λ (t : WorkToken). Some (t.text, between c.args.floor (n - 3) (seen_all sets c.args.tokens.now))) same)
