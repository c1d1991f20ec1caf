use Rattle.std.proofs.Common.{◌≡◌, ◌-◌, ◌<◌, ◌≤◌, ℕ, false, length}
use Rattle.cb_lines.specs.Marks.{is_line_return, is_splice}
use Rattle.cb_lines.proofs.splicing.cut_from.Given as goal

abbrev pub invariant-candidates : goal.invariant-candidates
invariant-candidates l = record {
  from : l.from ≤ l.at;
  within : l.at ≤ length l.source;
  stays : (k : ℕ) → l.from ≤ k → k < l.at → (is_line_return l.source k ≡ false) × (is_splice l.source k ≡ false);
}

abbrev pub decreases-candidates : goal.decreases-candidates
decreases-candidates l = length l.source - l.at
