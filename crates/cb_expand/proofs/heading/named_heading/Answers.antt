use Rattle.std.proofs.Common.{◌≡◌, ap, sym, ◌∙◌, subst, false, Some, rules}
use Rattle.std.specs.Prelude.{slice_get}
use Rattle.cb_macro.specs.Maps.{found_at}
use Rattle.cb_paste.specs.Sets.{hides}
use Rattle.cb_paste.specs.Shades.{seen}
use Rattle.cb_tokens.specs.Kinds.{is_identifier_kind}
use Rattle.std.proofs.Common.{true}
use Rattle.cb_expand.specs.inner.Readings.{rest_of, IsHeading}
use Rattle.cb_expand.proofs.Headings.{function_named, found_by}
use Rattle.cb_expand.proofs.heading.named_heading.Goals as goal

pub returns-then-is_function : goal.returns-then-is_function
returns-then-is_function c =
    let ms = c.args.macros.now in
    let w = c.args.work.now in
    let t = c.args.token.now in
    let place = c.in-Some.place in
    let e : is_identifier_kind t.kind ≡ true = search rules in
    let f : found_at ms t.text ≡ Some (place, c.at-body.result.now) =
    ap (found_at ms) (sym c.as_slice.ensures) ∙ found_by (slice_get ms place) _ place c.at-body.result.now c.in-Some.ensures.found c.at-body.ensures in
    let h : hides w.arena t.hides place ≡ false = ap (hides w.arena t.hides) (sym c.in_ok-small.ensures) ∙ (sym c.has.ensures ∙ c.if-has.false) in
    let g = function_named ms (seen w.arena t) (rest_of w) place c.at-body.result.now e f h (sym c.is_function.ensures ∙ c.if-is_function.true) in
    subst (λ h. IsHeading ms w t h c.function_heading.result) (sym g) (c.function_heading.ensures ms t c.at-body.result.now c.in-Some.ensures.place c.at-body.ensures)
