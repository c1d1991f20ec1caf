use Rattle.std.proofs.Common.{◌≡◌, ◌≤◌, length, drop}
use Rattle.std.specs.Prelude.{reverse}
use Rattle.cb_expand.proofs.calling.copies.Given as goal

abbrev pub invariant-tokens : goal.invariant-tokens
invariant-tokens l = record { within : l.at ≤ length l.tokens; copied : l.copies.items ≡ reverse (drop l.at l.tokens) }

abbrev pub decreases-tokens : goal.decreases-tokens
decreases-tokens l = l.at
