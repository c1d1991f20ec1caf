use Rattle.std.proofs.Common.{◌≡◌, ap}
use Rattle.cb_measure.specs.Metrics.{figure_on, best_on}
use Rattle.cb_measure.specs.declared.timed.Timed.{Timed}
use Rattle.cb_measure.proofs.Least.{beside_best, small_figure}
use Rattle.cb_measure.proofs.rows.Rows.pace_of.Goals as goal

pub invariant_of-result : goal.invariant_of-result
invariant_of-result c =
    let rows = c.args.self.now in
    let small = rw c.self.view_is at c.self.invariant.small in
    let p = c.args.problem.now in
    let a = c.args.application.now in
    let h = c.args.timed.now.platform in
    let figure : c.args.timed.now.figure ≡ figure_on rows p a h = ap (λ (t : Timed). t.figure) c.requires in
    let best : c.args.timed.now.best ≡ best_on rows p h = ap (λ (t : Timed). t.best) c.requires in
    let beside = beside_best rows p a h in
    rw (figure, best) (record { small = small_figure rows p a h small; some = beside.some; least = beside.least })
