use Rattle.std.proofs.Common.{length, subst, None, rules}
use Rattle.cb_expand.specs.inner.Sources.{IsEnd}
use Rattle.cb_expand.specs.inner.Works.{state_of, Goes}
use Rattle.cb_expand.proofs.Runs.{goes_none, goes_more, exceeds_more, end_state, used_within}
use Rattle.std.proofs.lemmas.Result.{err_from_is_err_and}
use Rattle.cb_expand.proofs.Resuming.{same_fault}
use Rattle.cb_expand.proofs.expansion.run.Goals as goal

pub steps-init : goal.steps-init
steps-init c = record {
  work = c.requires;
  goes = goes_none c.args.macros.now c.args.mode (state_of c.args.macros.now c.args.work.now None) c.args.work.now.used;
}

pub steps-preserved : goal.steps-preserved
steps-preserved c =
    let s = c.in_ok-call.ensures.steps in
    record {
      work = s.kept;
      goes = goes_more c.args.macros.now c.args.mode _ _ _ _ _ _ c.steps.invariant.goes s.goes;
    }

pub returns-clause-ran : goal.returns-clause-ran
returns-clause-ran c =
    let ms = c.args.macros.now in
    let w = c.steps.work in
    let h = c.steps.invariant.work in
    let e : IsEnd w c.steps.call = search rules in
    record {
      goes = subst (λ s. Goes ms c.args.mode (state_of ms c.args.work.now None) c.args.work.now.used s w.used) (end_state ms w c.steps.call h.frames e) c.steps.invariant.goes;
      limit = used_within (length ms) w c.steps.call h;
    }

pub returns-in_err-call-clause-long : goal.returns-in_err-call-clause-long
returns-in_err-call-clause-long c = λ q.
    let p = err_from_is_err_and c.from_residual.result c.from_residual.ensures.1 in
    exceeds_more c.args.macros.now c.args.mode _ _ _ _ c.steps.invariant.goes (c.step.ensures.long (same_fault _ _ _ _ c.in_err-call.was p.1 p.2 q))
