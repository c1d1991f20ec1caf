use Rattle.std.proofs.Common.{◌≡◌, ◌≤◌, ℕ, take}
use Rattle.cb_sets.specs.Sets.{members}
use Rattle.cb_sets.specs.Tallies.{users}
use Rattle.cb_sets.proofs.part.part_from.Given as goal

abbrev pub invariant-platforms : goal.invariant-platforms
invariant-platforms l = record {
  from : l.first ≤ l.end;
  within : l.end ≤ l.last;
  alike : (line : ℕ) → l.first ≤ line → line ≤ l.end → users (take l.place l.used) line ≡ members l.set;
}
