use Rattle.std.proofs.Common.{◌≡◌, ◌∙◌, ◌∷◌, [], ap, map, length, length-append, rules, arith}
use Rattle.std.specs.BTreeSet.{keys}
use Rattle.std.specs.Map.Iter.{deref}
use Rattle.std.proofs.lemmas.List.{map-append}
use Rattle.std.proofs.lemmas.Map.Iter.{iter_end}
use Rattle.cb_measure.specs.Metrics.{portability_over}
use Rattle.cb_measure.proofs.Means.{mean_none, mean_more, mean_is}
use Rattle.cb_measure.proofs.metrics.portability_on.Goals as goal

pub platforms-init : goal.platforms-init
platforms-init c = record {
  mean = mean_none _ _ _ _ _ _ c.none-mean.ensures.runs c.none-mean.ensures.count c.none-mean.ensures.total;
  few = let e = c.none-mean.ensures.count in omega arith;
}

pub platforms-preserved : goal.platforms-preserved
platforms-preserved c =
    let w = c.with-mean.ensures in
    let figure = rw c.as_slice.ensures at c.pace.ensures.figure in
    let best = rw c.as_slice.ensures at c.pace.ensures.best in
    let len = length-append c.platforms.yielded (c.in-Some.platform ∷ []) in
    record {
      mean = rw (map-append deref c.platforms.yielded (c.in-Some.platform ∷ [])) (mean_more c.args.rows.now c.args.problem.now c.args.application.now (map deref c.platforms.yielded) c.in-Some.platform.now
          c.platforms.mean.has_failed c.with-mean.result.has_failed c.platforms.mean.count c.platforms.mean.total c.with-mean.result.count c.with-mean.result.total c.pace.result.figure c.pace.result.best
          c.platforms.invariant.mean figure best w.because w.ran w.runs w.count w.total);
      few = omega (arith, len, w.few, c.platforms.invariant.few);
    }

pub returns : goal.returns
returns c =
    let all : map deref c.platforms.yielded ≡ keys c.args.platforms.now = search (rules, iter_end) in
    c.value.ensures ∙ mean_is c.args.rows.now c.args.problem.now c.args.application.now (map deref c.platforms.yielded) c.platforms.mean.has_failed c.platforms.mean.count c.platforms.mean.total c.platforms.invariant.mean
    ∙ ap (portability_over c.args.rows.now c.args.problem.now c.args.application.now) all
