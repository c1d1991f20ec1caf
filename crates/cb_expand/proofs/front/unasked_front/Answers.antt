use Rattle.std.proofs.Common.{◌≡◌, Some, subst, ap, sym, ◌∙◌, true, false, rules, None, map}
use Rattle.std.specs.Prelude.{IsSomeAnd, slice_get}
use Rattle.cb_tokens.specs.Kinds.{is_identifier_kind}
use Rattle.cb_macro.specs.Maps.{found_at}
use Rattle.cb_expand.specs.Expansion.{bare}
use Rattle.cb_expand.proofs.Headings.{head_by, no_name, no_macro}
use Rattle.cb_expand.proofs.Fronts.{named_by}
use Rattle.cb_expand.proofs.front.unasked_front.Goals as goal

pub returns-then-not-is_identifier : goal.returns-then-not-is_identifier
returns-then-not-is_identifier c = λ mode rest a.
    let ms = c.args.macros.now in
    let t = c.args.token.now in
    let e : is_identifier_kind t.kind ≡ false = search rules in
    head_by ms mode (bare t) (map bare rest) None a ∙ no_name ms (bare t) (map bare rest) e

pub returns-in-None : goal.returns-in-None
returns-in-None c = λ mode rest a.
    let ms = c.args.macros.now in
    let t = c.args.token.now in
    let e : is_identifier_kind t.kind ≡ true = search rules in
    let f : found_at ms t.text ≡ None = ap (found_at ms) (sym c.as_slice.ensures) ∙ c.in-None.ensures.place in
    head_by ms mode (bare t) (map bare rest) None a ∙ no_macro ms (bare t) (map bare rest) e f

pub returns-in-Some : goal.returns-in-Some
returns-in-Some c = λ mode rest a.
    let ms = c.args.macros.now in
    let t = c.args.token.now in
    let place = c.in-Some.place in
    let e : is_identifier_kind t.kind ≡ true = search rules in
    (c.in-Some.ensures.place, named_by ms mode (bare t) (map bare rest) place e a (slice_get ms place) (subst (λ text. IsSomeAnd (slice_get ms place) (λ e. found_at ms text ≡ Some (place, e.1))) c.as_slice.ensures c.in-Some.ensures.found))
