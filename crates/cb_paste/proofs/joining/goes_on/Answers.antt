use Rattle.std.proofs.Common.{◌≡◌, ◌++◌, Some, sym, subst, ◌∙◌, ap}
use Rattle.cb_tokens.specs.Kinds.{token_kind}
use Rattle.cb_paste.proofs.Names.{identifier_goes_on, number_goes_on}
use Rattle.cb_paste.proofs.joining.goes_on.Goals as goal

pub returns-in-Identifier : goal.returns-in-Identifier
returns-in-Identifier c = λ named front known.
    subst (λ k. token_kind (front ++ c.args.bytes.now) ≡ Some k) (sym c.in-Identifier.is)
    (identifier_goes_on front c.args.bytes.now (known ∙ ap Some c.in-Identifier.is) (sym c.are_name_bytes.ensures ∙ named))

pub returns-in-Number : goal.returns-in-Number
returns-in-Number c = λ named front known.
    subst (λ k. token_kind (front ++ c.args.bytes.now) ≡ Some k) (sym c.in-Number.is)
    (number_goes_on front c.args.bytes.now (known ∙ ap Some c.in-Number.is) (sym c.are_name_bytes-in-Number.ensures ∙ named))
