use Rattle.std.proofs.Common.{◌≤◌, length, drop}
use Rattle.std.specs.Prelude.{reverse}
use Rattle.cb_expand.specs.inner.Lefts.{AreLefts, begin_of}
use Rattle.cb_expand.proofs.calling.lefts.Given as goal

abbrev pub invariant-ends : goal.invariant-ends
invariant-ends l = record { within : l.at ≤ length l.ends; left : AreLefts l.body l.tokens l.at (begin_of l.height l.ends l.at) (drop l.at l.ends) (reverse l.lefts.items) }

abbrev pub decreases-ends : goal.decreases-ends
decreases-ends l = l.at
