use Rattle.std.proofs.Common.{◌≡◌, ◌-◌, length, get_or, ap, sym, ◌∙◌, arith, ◌<◌, true, false, rules}
use Rattle.cb_paste.specs.Shades.{seen}
use Rattle.cb_expand.specs.inner.Readings.{inside, rest_of}
use Rattle.cb_expand.specs.inner.Rows.{signs}
use Rattle.cb_expand.specs.inner.Works.{row_of}
use Rattle.cb_expand.proofs.Headings.{nothing_behind, shut, opened, is_opened}
use Rattle.cb_expand.proofs.Resuming.{between_none, length_row}
use Rattle.cb_expand.proofs.heading.function_heading.Goals as goal

pub returns-then-height-work : goal.returns-then-height-work
returns-then-height-work c = λ ms t d p i.
    let w = c.args.work.now in
    nothing_behind c.args.place d (seen w.arena t) (rest_of w)
    (between_none w.floor (length (row_of w)) (row_of w) (omega (arith, length_row w, c.len-height.ensures, c.if-height-work.true, w.row.tokens.ok.0)))

pub returns-then-not-is_open : goal.returns-then-not-is_open
returns-then-not-is_open c = λ ms t d p i.
    let w = c.args.work.now in
    let n : c.is_open.result ≡ false = search rules in
    let k : c.len-height.result - 1 ≡ inside w = omega (arith, c.len-height.ensures, w.row.tokens.ok.0) in
    shut w d c.sign.result (omega (arith, c.requires.floor, c.if-height-work.false, c.len-height.ensures, w.row.tokens.ok.0))
    (λ other. ap (λ n. get_or (signs w.row.tokens.items) n other) (sym k) ∙ c.sign.ensures other)
    (sym c.is_open.ensures ∙ n) c.args.place (seen w.arena t)

pub returns : goal.returns
returns c = λ ms t d p i.
    let w = c.args.work.now in
    let n : c.is_open.result ≡ true = search rules in
    let k : c.len-height.result - 1 ≡ inside w = omega (arith, c.len-height.ensures, w.row.tokens.ok.0) in
    let some : w.floor < length w.row.tokens.items = omega (arith, c.requires.floor, c.if-height-work.false, c.len-height.ensures, w.row.tokens.ok.0) in
    is_opened ms w t c.args.place d p i some
    (opened w d c.sign.result some (λ other. ap (λ n. get_or (signs w.row.tokens.items) n other) (sym k) ∙ c.sign.ensures other) (sym c.is_open.ensures ∙ n))
