use Rattle.std.proofs.Common.{◌≡◌, ◌∙◌, take, refl, ap, arith}
use Rattle.std.proofs.lemmas.List.{take_all}
use Rattle.cb_measure.specs.Metrics.{platforms_of}
use Rattle.cb_measure.specs.Names.{names_of}
use Rattle.cb_measure.specs.inner.Numbers.{number_in}
use Rattle.cb_measure.specs.inner.Finding.{names_at}
use Rattle.cb_measure.specs.declared.row.Row.{Row}
use Rattle.cb_measure.proofs.NameLists.{names_in}
use Rattle.cb_measure.proofs.Numbered.{names_step}
use Rattle.cb_measure.proofs.names.platforms_of.Goals as goal

pub rows-init : goal.rows-init
unfolding names_of
rows-init c = λ p. rw c.new-sets.ensures.empty refl

pub rows-preserved : goal.rows-preserved
rows-preserved c =
    names_step (λ (row : Row). row.platform) (number_in c.args.numbers.now) c.args.rows.now c.rows.row-index c.row-item.result (names_at c.rows.sets) (names_at c.add.new.sets) c.number-problem.result
    c.requires c.rows-test.true c.row-item.is (c.number-problem.ensures ∙ ap (number_in c.args.numbers.now) c.as_slice.ensures) c.rows.invariant c.in_ok-add.ensures

pub returns : goal.returns
unfolding platforms_of
returns c =
    let all : take c.rows.row-index c.args.rows.now ≡ c.args.rows.now = take_all _ _ (omega arith) in
    λ p. c.rows.invariant p ∙ ap (λ rows. names_in (λ (row : Row). row.platform) rows p) all
