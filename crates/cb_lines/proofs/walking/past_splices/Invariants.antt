use Rattle.std.proofs.Common.{◌≡◌, ◌-◌, ◌≤◌, List, ℕ, length, drop}
use Rattle.cb_lines.specs.inner.Held.{marks_held}
use Rattle.cb_lines.proofs.walking.past_splices.Given as goal

abbrev pub invariant-splices : goal.invariant-splices
invariant-splices l = record {
  within : l.count ≤ length l.splices;
  same : (bytes : List ℕ) → marks_held l.line l.at bytes (drop l.count l.splices) ≡ marks_held l.from l.at bytes l.splices;
}

abbrev pub decreases-splices : goal.decreases-splices
decreases-splices l = length l.splices - l.count
