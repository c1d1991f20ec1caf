use Rattle.std.proofs.Common.{◌≡◌, ◌≤◌, [], length, take, map}
use Rattle.std.specs.List.{fold}
use Rattle.cb_measure.specs.Cascade.{put_platform}
use Rattle.cb_measure.specs.inner.Timing.{timed}
use Rattle.cb_measure.proofs.cascade.falling_on.Given as goal

abbrev pub invariant-platforms : goal.invariant-platforms
invariant-platforms l = record {
  order : l.order.items ≡ map (timed l.rows l.problem l.application) (fold (put_platform l.rows l.problem l.application) [] (take l.platform-index l.platforms));
  few : length l.order.items ≤ l.platform-index;
}
