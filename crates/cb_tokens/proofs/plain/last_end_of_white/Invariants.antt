use Rattle.std.proofs.Common.{ℕ, ◌<◌, ◌≤◌}
use Rattle.cb_tokens.specs.Plain.{EndsWhite}
use Rattle.cb_tokens.proofs.plain.last_end_of_white.Given as goal

abbrev pub invariant-places : goal.invariant-places
invariant-places l = record {
  from : l.from ≤ l.at;
  to : l.at ≤ l.to;
  last : (n : ℕ) → l.at < n → n ≤ l.to → EndsWhite l.bytes n → ⊥;
}

abbrev pub decreases-places : goal.decreases-places
decreases-places l = l.at
