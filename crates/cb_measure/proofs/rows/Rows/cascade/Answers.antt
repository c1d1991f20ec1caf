use Rattle.std.proofs.Common.{◌≡◌, ◌∙◌, map, sym, ap}
use Rattle.cb_measure.specs.inner.Timing.{timed}
use Rattle.cb_measure.specs.declared.timed.Timed.{Timed}
use Rattle.cb_measure.proofs.rows.Rows.cascade.Goals as goal

pub steps_on-requires-clause-figures : goal.steps_on-requires-clause-figures
steps_on-requires-clause-figures c =
    rw c.as_slice-2.ensures.value (c.in_ok-order.ensures.figures ∙ ap (map (timed c.args.self.now c.args.problem.now c.args.application.now)) (sym c.in_ok-order.ensures.order))
