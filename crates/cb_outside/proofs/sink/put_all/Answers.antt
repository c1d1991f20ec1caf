use Rattle.std.proofs.Common.{◌∙◌, arith}
use Rattle.std.proofs.lemmas.Grind.{common_steps}
use Rattle.cb_outside.proofs.Prefixes.{Appends-more}
use Rattle.cb_outside.proofs.sink.put_all.Goals as goal

pub writes-preserved : goal.writes-preserved
writes-preserved g c = record {
  within = grind (arith, common_steps);
  kept = c.in_ok-done.ensures.kept ∙ c.writes.invariant.kept;
  done = Appends-more _ _ _ _ _ _ c.writes.invariant.done (rw c.rest.ensures at c.in_ok-done.ensures.content);
}
