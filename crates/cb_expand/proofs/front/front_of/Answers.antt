use Rattle.std.proofs.Common.{◌≡◌, ap, sym, ◌∙◌, map, drop}
use Rattle.std.specs.Prelude.{is_some}
use Rattle.cb_macro.specs.Maps.{found_at}
use Rattle.cb_expand.specs.Expansion.{bare}
use Rattle.cb_expand.specs.Heads.{Stands, answer_token}
use Rattle.cb_expand.proofs.Headings.{head_by, some_by}
use Rattle.cb_expand.proofs.front.front_of.Goals as goal

pub returns-in-Some : goal.returns-in-Some
returns-in-Some c =
    let ms = c.args.macros.now in
    let t = c.args.token.now in
    let rest = c.args.rest.now in
    let name = c.index-rest-asked.result in
    let a = c.in-Some.ensures.2 name (sym c.index-rest-asked.is) in
    let f : is_some (found_at ms name.text) ≡ c.is_some-is_defined.result =
    ap (λ text. is_some (found_at ms text)) (sym c.as_slice.ensures) ∙ (sym (some_by ms c.place_of.result _ c.place_of.ensures.found) ∙ sym c.is_some-is_defined.ensures) in (
      c.in-Some.ensures.1,
      head_by ms c.args.mode (bare t) (map bare rest) _ a
          ∙ ap (λ b. Stands (answer_token (bare t) b) (map bare (drop c.in-Some.asked.count rest))) f,
    )
