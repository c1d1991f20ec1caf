use Rattle.std.proofs.Common.{◌≡◌, ◌∙◌, take, refl, ap, arith}
use Rattle.std.proofs.lemmas.List.{take_all}
use Rattle.cb_measure.specs.Metrics.{figure_on, least}
use Rattle.cb_measure.specs.inner.Numbers.{number_in}
use Rattle.cb_measure.specs.inner.Finding.{run_at}
use Rattle.cb_measure.proofs.Numbered.{run_step}
use Rattle.cb_measure.proofs.figures.runs_of.Goals as goal

pub rows-init : goal.rows-init
unfolding figure_on least
rows-init c = λ p a h. rw c.new-runs.ensures.empty refl

pub rows-preserved : goal.rows-preserved
rows-preserved c =
    run_step (number_in c.args.numbers.now) c.args.rows.now c.rows.row-index c.row-item.result (run_at c.rows.runs) (run_at c.lower.new.figures)
    c.number-problem.result c.number-application.result c.number-platform.result
    c.requires c.rows-test.true c.row-item.is (c.number-problem.ensures ∙ ap (number_in c.args.numbers.now) c.as_slice.ensures)
    (c.number-application.ensures ∙ ap (number_in c.args.numbers.now) c.as_slice-in-rows.ensures) (c.number-platform.ensures ∙ ap (number_in c.args.numbers.now) c.as_slice-in-rows-2.ensures)
    c.rows.invariant (λ m l n. c.in_ok-lower.ensures (m, l, n))

pub returns : goal.returns
returns c =
    let all : take c.rows.row-index c.args.rows.now ≡ c.args.rows.now = take_all _ _ (omega arith) in
    λ p a h. c.rows.invariant p a h ∙ ap (λ rows. figure_on rows p a h) all
