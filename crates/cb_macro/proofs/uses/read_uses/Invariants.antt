-- The uses by the parts behind are noted.
use Rattle.std.proofs.Common.{◌≡◌, ◌≤◌, length, drop}
use Rattle.cb_macro.specs.inner.Kept.{AreUsesOf}
use Rattle.cb_macro.proofs.uses.read_uses.Given as goal

abbrev pub invariant-parts : goal.invariant-parts
invariant-parts l = record {
  within : l.at ≤ length l.parts;
  noted : AreUsesOf l.uses.items (drop l.at l.parts);
  count : length l.uses.items ≡ l.count;
}

abbrev pub decreases-parts : goal.decreases-parts
decreases-parts l = l.at
