use Rattle.std.proofs.Common.{◌≡◌, [], ◌∷◌, ◌++◌, cond, ap, sym, ◌∙◌}
use Rattle.std.specs.Option.{option_copied}
use Rattle.cb_outside.specs.inner.Listing.{has, with_found}
use Rattle.cb_outside.proofs.listing.add_once.Goals as goal

pub returns-then-contains : goal.returns-then-contains
returns-then-contains c =
    let texts = c.args.texts.now in
    let text = c.in-Some.text.now in
    let held : has text texts ≡ c.contains.result = sym (c.contains.ensures.value ∙ ap (λ t. has t c.as_slice.result.now) c.in_ok-text.ensures ∙ ap (has text) c.as_slice.ensures) in
    sym (ap (λ found. with_found texts (option_copied found)) c.in-Some.is ∙ ap (λ b. cond b texts (texts ++ text ∷ [])) (held ∙ c.if-contains.true))

pub returns : goal.returns
returns c =
    let texts = c.args.texts.now in
    let text = c.in-Some.text.now in
    let held : has text texts ≡ c.contains.result = sym (c.contains.ensures.value ∙ ap (λ t. has t c.as_slice.result.now) c.in_ok-text.ensures ∙ ap (has text) c.as_slice.ensures) in
    c.in_ok-push.ensures.added ∙ ap (λ t. texts ++ t ∷ []) c.in_ok-text.ensures
    ∙ sym (ap (λ found. with_found texts (option_copied found)) c.in-Some.is ∙ ap (λ b. cond b texts (texts ++ text ∷ [])) (held ∙ c.if-contains.false))
