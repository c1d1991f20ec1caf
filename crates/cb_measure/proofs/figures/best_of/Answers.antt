use Rattle.std.proofs.Common.{◌≡◌, ◌∙◌, take, refl, ap, arith}
use Rattle.std.proofs.lemmas.List.{take_all}
use Rattle.cb_measure.specs.Metrics.{best_on, least}
use Rattle.cb_measure.specs.inner.Numbers.{number_in}
use Rattle.cb_measure.specs.inner.Finding.{best_at}
use Rattle.cb_measure.proofs.Numbered.{best_step}
use Rattle.cb_measure.proofs.figures.best_of.Goals as goal

pub rows-init : goal.rows-init
unfolding best_on least
rows-init c = λ p h. rw c.new-best.ensures.empty refl

pub rows-preserved : goal.rows-preserved
rows-preserved c =
    best_step (number_in c.args.numbers.now) c.args.rows.now c.rows.row-index c.row-item.result (best_at c.rows.best) (best_at c.lower.new.figures) c.number-problem.result c.number-platform.result
    c.requires c.rows-test.true c.row-item.is (c.number-problem.ensures ∙ ap (number_in c.args.numbers.now) c.as_slice.ensures)
    (c.number-platform.ensures ∙ ap (number_in c.args.numbers.now) c.as_slice-in-rows.ensures) c.rows.invariant (λ m n. c.in_ok-lower.ensures (m, n))

pub returns : goal.returns
returns c =
    let all : take c.rows.row-index c.args.rows.now ≡ c.args.rows.now = take_all _ _ (omega arith) in
    λ p h. c.rows.invariant p h ∙ ap (λ rows. best_on rows p h) all
