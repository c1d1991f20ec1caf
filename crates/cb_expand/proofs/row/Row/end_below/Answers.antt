use Rattle.std.proofs.Common.{ap, arith, false, true}
use Rattle.std.proofs.lemmas.List.{length-map}
use Rattle.cb_paste.specs.declared.work_token.WorkToken.{WorkToken}
use Rattle.cb_expand.specs.Arguments.{sign}
use Rattle.cb_expand.specs.inner.Rows.{signs, kept}
use Rattle.cb_expand.proofs.Heights.{height_within}
use Rattle.cb_expand.proofs.row.Row.end_below.Goals as goal

pub returns-then-commas-clause-below : goal.returns-then-commas-clause-below
returns-then-commas-clause-below c =
    let s = c.args.self.now in
    let l = length-map s.tokens.items (λ (t : WorkToken). sign t.kind t.text) in
    let e = ap (λ es. kept (λ e. e.separator) es c.args.height) c.as_slice.ensures.value in
    let k = c.requires.row.ends.separator c.args.height (omega (arith, c.requires.row.all, l)) in
    omega (arith, c.separator_below.ensures, e, k, height_within (signs s.tokens.items) true c.args.height (omega (arith, l)))

pub returns-else-commas-clause-below : goal.returns-else-commas-clause-below
returns-else-commas-clause-below c =
    let s = c.args.self.now in
    let l = length-map s.tokens.items (λ (t : WorkToken). sign t.kind t.text) in
    let e = ap (λ es. kept (λ e. e.close) es c.args.height) c.as_slice-else-commas.ensures.value in
    let k = c.requires.row.ends.close c.args.height (omega (arith, c.requires.row.all, l)) in
    omega (arith, c.close_below.ensures, e, k, height_within (signs s.tokens.items) false c.args.height (omega (arith, l)))
