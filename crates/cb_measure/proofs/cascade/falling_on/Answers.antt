use Rattle.std.proofs.Common.{◌≡◌, ◌∙◌, [], take, map, ap, arith}
use Rattle.std.specs.List.{fold}
use Rattle.std.proofs.lemmas.List.{take_all}
use Rattle.cb_measure.specs.Cascade.{put_platform}
use Rattle.cb_measure.specs.inner.Timing.{timed}
use Rattle.cb_measure.specs.declared.timed.Timed.{Timed}
use Rattle.cb_measure.proofs.Placed.{put_more, names_of_timed}
use Rattle.cb_measure.proofs.cascade.falling_on.Goals as goal

pub platforms-preserved : goal.platforms-preserved
platforms-preserved c =
    let len = c.in_ok-put.ensures.len in
    let few = c.platforms.invariant.few in
    record {
      order = put_more c.args.rows.now c.args.problem.now c.args.application.now c.args.platforms.now c.platforms.platform-index c.platform-item.result c.in_ok-timed_on.field-0
          c.platforms.order.items c.put.new.order.items c.platforms-test.true c.platform-item.is c.platforms.invariant.order c.in_ok-timed_on.ensures c.in_ok-put.ensures.put;
      few = omega arith;
    }

pub returns-clause-order : goal.returns-clause-order
returns-clause-order c =
    let all : take c.platforms.platform-index c.args.platforms.now ≡ c.args.platforms.now = take_all _ _ (omega arith) in
    ap (map (λ (t : Timed). t.platform)) c.platforms.invariant.order ∙ names_of_timed c.args.rows.now c.args.problem.now c.args.application.now _
    ∙ ap (fold (put_platform c.args.rows.now c.args.problem.now c.args.application.now) []) all

pub returns-clause-figures : goal.returns-clause-figures
returns-clause-figures c =
    let all : take c.platforms.platform-index c.args.platforms.now ≡ c.args.platforms.now = take_all _ _ (omega arith) in
    c.platforms.invariant.order
    ∙ ap (λ ns. map (timed c.args.rows.now c.args.problem.now c.args.application.now) (fold (put_platform c.args.rows.now c.args.problem.now c.args.application.now) [] ns)) all
