use Rattle.std.proofs.Common.{◌≡◌, ◌∙◌}
use Rattle.cb_measure.specs.Metrics.{figure_on, best_on}
use Rattle.cb_measure.proofs.Least.{beside_best, small_figure}
use Rattle.cb_measure.proofs.rows.Rows.pace.Goals as goal

pub invariant_of-result : goal.invariant_of-result
invariant_of-result c =
    let rows = c.self.inside.rows.items in
    let p = c.args.problem.now in
    let a = c.args.application.now in
    let h = c.args.platform.now in
    let figure : c.run_at.result ≡ figure_on rows p a h =
    c.run_at.ensures ∙ rw (c.number-problem.ensures, c.number-application.ensures, c.number-platform.ensures) (c.self.invariant.found.figure p a h)
    in
    let best : c.best_at.result ≡ best_on rows p h = c.best_at.ensures ∙ rw (c.number-problem.ensures, c.number-platform.ensures) (c.self.invariant.found.best p h) in
    let beside = beside_best rows p a h in
    rw (figure, best) (record { small = small_figure rows p a h c.self.invariant.small; some = beside.some; least = beside.least })
