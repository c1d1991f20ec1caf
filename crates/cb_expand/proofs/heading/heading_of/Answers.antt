use Rattle.std.proofs.Common.{◌≡◌, length, ap, sym, ◌∙◌, subst, arith, None, Some, IfOk}
use Rattle.std.specs.Prelude.{if◌then◌else◌, is_some, slice_index_or}
use Rattle.cb_macro.specs.Maps.{found_at}
use Rattle.cb_paste.specs.Shades.{seen}
use Rattle.cb_expand.specs.Heads.{Stands, asked, asked_of, answer_token}
use Rattle.cb_expand.specs.inner.Readings.{rest_of, IsHeading}
use Rattle.cb_expand.specs.inner.Rows.{between}
use Rattle.cb_expand.specs.inner.Works.{seen_all, row_of}
use Rattle.cb_expand.proofs.Headings.{head_by, slice_rest, some_by}
use Rattle.cb_expand.proofs.heading.heading_of.Goals as goal

pub returns-then-not-asks : goal.returns-then-not-asks
returns-then-not-asks c =
    let ms = c.args.macros.now in
    let w = c.args.work.now in
    let t = c.args.token.now in
    let a : asked c.args.mode (seen w.arena t) (rest_of w) ≡ None = c.asks.ensures w.arena (rest_of w) ∙ ap (λ b. if b then asked_of (rest_of w) else None) c.if-not-asks.true in
    subst (λ h. IfOk c.named_heading.result (IsHeading ms w t h)) (sym (head_by ms c.args.mode (seen w.arena t) (rest_of w) None a)) c.named_heading.ensures

pub returns-in-None : goal.returns-in-None
returns-in-None c =
    let ms = c.args.macros.now in
    let w = c.args.work.now in
    let t = c.args.token.now in
    let n : asked_of (rest_of w) ≡ None = ap asked_of (slice_rest w c.as_slice.result.now c.as_slice.ensures.value) ∙ c.in-None.ensures.asked w.arena in
    let a : asked c.args.mode (seen w.arena t) (rest_of w) ≡ None = c.asks.ensures w.arena (rest_of w) ∙ (ap (λ b. if b then asked_of (rest_of w) else None) c.if-not-asks.false ∙ n) in
    subst (λ h. IfOk c.named_heading-in-None.result (IsHeading ms w t h)) (sym (head_by ms c.args.mode (seen w.arena t) (rest_of w) None a)) c.named_heading-in-None.ensures

pub returns-in-Some : goal.returns-in-Some
returns-in-Some c =
    let ms = c.args.macros.now in
    let w = c.args.work.now in
    let t = c.args.token.now in
    let x = c.in-Some.asked in
    let ts = c.as_slice.result.now in
    let name = c.index-name.result.now in
    let v = c.as_slice.ensures.value in
    let i = ap (λ xs. slice_index_or xs x.name name) v ∙ sym c.index-name.ensures in
    let below = ap (λ xs. between w.floor x.height (seen_all w.arena xs)) v in
    let n : asked_of (rest_of w) ≡ Some (name.text, between w.floor x.height (row_of w)) =
    ap asked_of (slice_rest w ts v) ∙ (c.in-Some.ensures.asked w.arena name i ∙ ap (λ xs. Some (name.text, xs)) below) in
    let a : asked c.args.mode (seen w.arena t) (rest_of w) ≡ Some (name.text, between w.floor x.height (row_of w)) =
    c.asks.ensures w.arena (rest_of w) ∙ (ap (λ b. if b then asked_of (rest_of w) else None) c.if-not-asks.false ∙ n) in
    let f : is_some (found_at ms name.text) ≡ c.is_some-is_defined.result =
    ap (λ text. is_some (found_at ms text)) (sym c.as_slice-in-Some.ensures) ∙ (sym (some_by ms c.place_of.result _ c.place_of.ensures.found) ∙ sym c.is_some-is_defined.ensures) in (
      c.in-Some.ensures.within.1,
      omega (arith, c.in-Some.ensures.within.2, ap length v),
      head_by ms c.args.mode (seen w.arena t) (rest_of w) _ a
          ∙ ap (λ b. Stands (answer_token (seen w.arena t) b) (between w.floor x.height (row_of w))) f,
    )
