-- No use is noted so far.
use Rattle.std.proofs.Common.{◌≤◌, ◌-◌, [], length}
use Rattle.cb_macro.specs.inner.Kept.{AreUsesOf}
use Rattle.cb_macro.proofs.uses.unused.Given as goal

abbrev pub invariant-uses : goal.invariant-uses
invariant-uses l = record { within : length l.uses.items ≤ l.count; noted : AreUsesOf l.uses.items [] }

abbrev pub decreases-uses : goal.decreases-uses
decreases-uses l = l.count - length l.uses.items
