use Rattle.std.proofs.Common.{◌≤◌, length, map}
use Rattle.std.specs.Map.Iter.{deref}
use Rattle.cb_measure.proofs.Means.{IsMeanOf}
use Rattle.cb_measure.proofs.metrics.portability_on.Given as goal

abbrev pub invariant-platforms : goal.invariant-platforms
invariant-platforms l = record {
  mean : IsMeanOf l.rows l.problem l.application (map deref l.yielded) l.mean.has_failed l.mean.count l.mean.total;
  few : l.mean.count ≤ length l.yielded;
}
