-- One more name, which is new or stands twice.
use Rattle.std.proofs.Common.{Ok, ◌∙◌, ap, sym}
use Rattle.cb_macro.proofs.FirstItems.{distinct_none, distinct_more, stands_twice, held_more, not_true, not_false}
use Rattle.cb_macro.proofs.parameters.all_names.Goals as goal

pub loop-name-init : goal.loop-name-init
loop-name-init c = record { held = c.new-all.ensures; distinct = distinct_none }

pub returns-then-not-branch-clause-bad : goal.returns-then-not-branch-clause-bad
returns-then-not-branch-clause-bad c =
    let twice = not_false _ (sym c.in_ok-add.ensures.new ∙ c.if-not-branch.true) in
    let twice' = rw (c.loop-name.invariant.held, c.as_slice.ensures, c.name-item.is) at twice in
    rw (stands_twice _ _ _ c.loop-name-test.true twice')

pub loop-name-preserved : goal.loop-name-preserved
loop-name-preserved c = record {
  held =
      held_more _ _ _ _ _ _ c.loop-name-test.true c.loop-name.invariant.held (c.as_slice.ensures ∙ c.name-item.is)
      (c.in_ok-add.ensures.added (ap Ok c.if-not-branch.false));
  distinct =
      let new = not_true _ (sym c.in_ok-add.ensures.new ∙ c.if-not-branch.false) in
      let new' = rw (c.loop-name.invariant.held, c.as_slice.ensures, c.name-item.is) at new in
      distinct_more _ _ _ c.loop-name-test.true c.loop-name.invariant.distinct new';
}
