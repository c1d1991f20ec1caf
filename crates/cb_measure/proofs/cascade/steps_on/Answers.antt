use Rattle.std.proofs.Common.{◌≡◌, ◌∙◌, ◌+◌, ℕ, List, [], ◌∷◌, ◌++◌, take, map, length, get_or, sym, ap, arith, Option, unwrap_or}
use Rattle.std.proofs.lemmas.List.{take_more, length-map}
use Rattle.std.proofs.lemmas.List.FromFn.{map-range_with_len_more}
use Rattle.cb_measure.specs.Metrics.{efficiency_of}
use Rattle.cb_measure.specs.Cascade.{step_at}
use Rattle.cb_measure.specs.declared.timed.Timed.{Timed}
use Rattle.cb_measure.proofs.Means.{mean_none, mean_more, mean_is}
use Rattle.cb_measure.proofs.Placed.{name_at, step_is, efficiency_is, next_names, timed_at}
use Rattle.cb_measure.proofs.cascade.steps_on.Goals as goal

pub order-init : goal.order-init
order-init c = record {
  mean = mean_none _ _ _ _ _ _ c.none-mean.ensures.runs c.none-mean.ensures.count c.none-mean.ensures.total;
  few = let e = c.none-mean.ensures.count in omega arith;
  steps = c.new-steps.ensures;
}

pub pace_of-pace-requires : goal.pace_of-pace-requires
pace_of-pace-requires c =
    timed_at c.args.rows.now c.args.problem.now c.args.application.now c.args.order.now c.order.item-index c.item-item.result c.order-test.true c.item-item.is c.requires.figures

pub order-preserved : goal.order-preserved
order-preserved c =
    let rows = c.args.rows.now in
    let p = c.args.problem.now in
    let a = c.args.application.now in
    let order = c.args.order.now in
    let names : List (List ℕ) = map (λ (t : Timed). t.platform) order in
    let i = c.order.item-index in
    let item = c.item-item.result in
    let figure = c.pace_of-pace.ensures.figure in
    let best = c.pace_of-pace.ensures.best in
    let w = c.with-mean.ensures in
    let mean = rw (sym (next_names order i item c.order-test.true c.item-item.is)) at (mean_more rows p a (take i names) item.platform c.order.mean.has_failed c.with-mean.result.has_failed c.order.mean.count c.order.mean.total
    c.with-mean.result.count c.with-mean.result.total c.pace_of-pace.result.figure c.pace_of-pace.result.best c.order.invariant.mean figure best w.because w.ran w.runs w.count w.total) in
    let efficiency : c.unwrap_or.result ≡ unwrap_or (efficiency_of rows p a item.platform) 0 =
    c.unwrap_or.ensures ∙ ap (λ (o : Option ℕ). unwrap_or o 0) (c.efficiency.ensures ∙ efficiency_is rows p a item.platform c.pace_of-pace.result.figure c.pace_of-pace.result.best figure best)
    in
    let step = step_is rows p a order i item c.unwrap_or.result c.value.result c.order-test.true c.item-item.is efficiency
    (c.value.ensures ∙ mean_is rows p a (take (i + 1) names) c.with-mean.result.has_failed c.with-mean.result.count c.with-mean.result.total mean) in
    record {
      mean = mean;
      few = omega (arith, w.few, c.order.invariant.few);
      steps = c.in_ok-push.ensures ∙ rw (c.in_ok-copy.ensures, c.order.invariant.steps, step) (sym (map-range_with_len_more (step_at rows p a names) 0 i i (omega arith)));
    }
