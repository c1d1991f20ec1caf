use Rattle.std.proofs.Common.{◌≡◌, ◌-◌, ◌≤◌, drop, length}
use Rattle.cb_paste.specs.inner.Uses.{is_used}
use Rattle.cb_paste.proofs.part.is_used.Given as goal

abbrev pub invariant-parts : goal.invariant-parts
invariant-parts l = (is_used l.parts l.raw l.i ≡ is_used (drop l.at l.parts) l.raw l.i) × (l.at ≤ length l.parts)

abbrev pub decreases-parts : goal.decreases-parts
decreases-parts l = length l.parts - l.at
