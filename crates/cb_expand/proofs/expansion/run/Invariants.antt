use Rattle.std.proofs.Common.{length, None}
use Rattle.cb_expand.specs.inner.Works.{IsWork, Goes, state_of, weight}
use Rattle.cb_expand.proofs.expansion.run.Given as goal

abbrev pub invariant-steps : goal.invariant-steps
invariant-steps l = record {
  work : IsWork (length l.macros) l.work l.call;
  goes : Goes l.macros l.mode (state_of l.macros l.fn.work None) l.fn.work.used (state_of l.macros l.work l.call) l.work.used;
}

abbrev pub decreases-steps : goal.decreases-steps
decreases-steps l = weight l.work
