use Rattle.std.proofs.Common.{ap, sym, ◌∙◌, arith}
use Rattle.cb_expand.specs.inner.Rows.{signs, end_height}
use Rattle.cb_expand.proofs.ByEnds.{so_far_none, so_far_wrong, so_far_last, so_far_lacks, so_far_more, end_within}
use Rattle.cb_expand.proofs.gathering.some_ends.Goals as goal

pub end_below-end-requires-clause-within : goal.end_below-end-requires-clause-within
end_below-end-requires-clause-within c =
    let h = c.arguments.invariant in omega (arith, h.from_is, end_within c.args.height c.args.floor c.arguments.ends.items h.descending, c.requires.within)

pub returns-then-end-floor : goal.returns-then-end-floor
returns-then-end-floor c =
    let e = c.end_below-end.ensures.end ∙ ap (λ b. end_height b (signs c.args.row.now.tokens.items) c.arguments.from) c.commas_end_it.ensures in
    so_far_none _ _ _ _ _ _ _ _ c.arguments.invariant c.requires.within c.end_below-end.result e c.if-end-floor.true

pub sign-requires-clause-within : goal.sign-requires-clause-within
sign-requires-clause-within c =
    let h = c.arguments.invariant in omega (arith, h.from_is, end_within c.args.height c.args.floor c.arguments.ends.items h.descending, c.requires.within, c.end_below-end.ensures.below)

pub returns-in-Wrong : goal.returns-in-Wrong
returns-in-Wrong c =
    let e = c.end_below-end.ensures.end ∙ ap (λ b. end_height b (signs c.args.row.now.tokens.items) c.arguments.from) c.commas_end_it.ensures in
    so_far_wrong _ _ _ _ _ _ _ _ c.arguments.invariant c.requires.within c.end_below-end.result e c.if-end-floor.false c.end_below-end.ensures.below c.sign.result c.sign.ensures _ c.in_ok-push.ensures.items (sym c.in-Wrong.ensures)

pub returns-in-Last : goal.returns-in-Last
returns-in-Last c =
    let e = c.end_below-end.ensures.end ∙ ap (λ b. end_height b (signs c.args.row.now.tokens.items) c.arguments.from) c.commas_end_it.ensures in
    so_far_last _ _ _ _ _ _ _ _ c.arguments.invariant c.requires.within c.end_below-end.result e c.if-end-floor.false c.end_below-end.ensures.below c.sign.result c.sign.ensures _ c.in_ok-push.ensures.items (sym c.in-Last.ensures)

pub returns-in-Lacks : goal.returns-in-Lacks
returns-in-Lacks c =
    let e = c.end_below-end.ensures.end ∙ ap (λ b. end_height b (signs c.args.row.now.tokens.items) c.arguments.from) c.commas_end_it.ensures in
    so_far_lacks _ _ _ _ _ _ _ _ c.arguments.invariant c.requires.within c.end_below-end.result e c.if-end-floor.false c.end_below-end.ensures.below c.sign.result c.sign.ensures _ c.in_ok-push.ensures.items (sym c.in-Lacks.ensures)

pub arguments-preserved : goal.arguments-preserved
arguments-preserved c =
    let e = c.end_below-end.ensures.end ∙ ap (λ b. end_height b (signs c.args.row.now.tokens.items) c.arguments.from) c.commas_end_it.ensures in
    so_far_more _ _ _ _ _ _ _ _ c.arguments.invariant c.requires.within c.end_below-end.result e c.if-end-floor.false c.end_below-end.ensures.below c.sign.result c.sign.ensures _ c.in_ok-push.ensures.items (sym c.in-More.ensures)
