use Rattle.std.proofs.Common.{◌≡◌, ◌-◌, length, ap, sym, ◌∙◌, arith}
use Rattle.std.specs.Prelude.{slice_get}
use Rattle.cb_macro.specs.Definitions.{Definition, all_parameters}
use Rattle.cb_paste.specs.Shades.{seen}
use Rattle.cb_expand.specs.Arguments.{gather}
use Rattle.cb_expand.specs.Heads.{called}
use Rattle.cb_expand.specs.inner.Readings.{inside, rest_of}
use Rattle.cb_expand.specs.inner.Rows.{between}
use Rattle.cb_expand.specs.inner.Works.{row_of}
use Rattle.cb_expand.proofs.Headings.{is_ended, is_called, gather_is, gathered_is, opened_by, match_more, some_more}
use Rattle.cb_expand.proofs.Runs.{if_ok_more}
use Rattle.cb_expand.proofs.calling.call_ends.Goals as goal

pub returns-clause-ended : goal.returns-clause-ended
returns-clause-ended c =
    let ms = c.args.macros.now in
    let w = c.args.work.now in
    let k : c.len-height.result - 1 ≡ inside w = omega (arith, c.len-height.ensures, w.row.tokens.ok.0) in
    let v = c.is_variadic.ensures in
    let n = c.parameter_count.ensures in
    if_ok_more c.argument_ends.result (λ found. some_more _ found
    (λ g a. is_ended ms w c.args.place c.at-body.result.now c.requires.place c.at-body.ensures g.ends.items g.lacks_rest (omega (arith, c.requires.some))
    (gathered_is w _ _ _ _ (c.len-height.result - 1) g.ends.items g.lacks_rest v n k a))) (c.argument_ends.ensures w.arena)

pub returns-clause-called : goal.returns-clause-called
returns-clause-called c = λ t h opened.
    let ms = c.args.macros.now in
    let w = c.args.work.now in
    let place = c.args.place in
    let d = c.at-body.result.now in
    let k : c.len-height.result - 1 ≡ inside w = omega (arith, c.len-height.ensures, w.row.tokens.ok.0) in
    let i = c.at-body.ensures in
    let o = opened_by (slice_get ms place) d (λ (d : Definition). called place d (seen w.arena t) (rest_of w) (gather d.is_variadic (length (all_parameters d)) (between w.floor (inside w) (row_of w)))) h opened.is i in
    let v = c.is_variadic.ensures in
    let n = c.parameter_count.ensures in
    if_ok_more c.argument_ends.result (λ found. match_more found
    (λ none. o ∙ ap (called place d (seen w.arena t) (rest_of w)) (sym (gather_is w _ _ _ _ (c.len-height.result - 1) v n k) ∙ none))
    (λ g a. is_called ms w t place d i g.ends.items g.lacks_rest h o (gathered_is w _ _ _ _ (c.len-height.result - 1) g.ends.items g.lacks_rest v n k a))) (c.argument_ends.ensures w.arena)
