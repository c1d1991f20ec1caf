use Rattle.std.proofs.Common.{◌≡◌, ◌≤◌, take, map}
use Rattle.std.specs.List.{range_with_len}
use Rattle.cb_measure.specs.Cascade.{step_at}
use Rattle.cb_measure.specs.declared.timed.Timed.{Timed}
use Rattle.cb_measure.proofs.Means.{IsMeanOf}
use Rattle.cb_measure.proofs.cascade.steps_on.Given as goal

abbrev pub invariant-order : goal.invariant-order
invariant-order l = record {
  mean : IsMeanOf l.rows l.problem l.application (take l.item-index (map (λ (t : Timed). t.platform) l.order)) l.mean.has_failed l.mean.count l.mean.total;
  few : l.mean.count ≤ l.item-index;
  steps : l.steps ≡ map (step_at l.rows l.problem l.application (map (λ (t : Timed). t.platform) l.order)) (range_with_len 0 l.item-index);
}
