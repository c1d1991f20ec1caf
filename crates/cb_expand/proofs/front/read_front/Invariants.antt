use Rattle.std.proofs.Common.{◌-◌, ◌≤◌, length}
use Rattle.cb_expand.specs.inner.Fronts.{AreRead}
use Rattle.cb_expand.proofs.front.read_front.Given as goal

abbrev pub invariant-tokens : goal.invariant-tokens
invariant-tokens l = AreRead l.macros l.mode l.tokens l.at l.out l.paid × (l.paid ≤ 65536)

abbrev pub decreases-tokens : goal.decreases-tokens
decreases-tokens l = length l.tokens - l.at
