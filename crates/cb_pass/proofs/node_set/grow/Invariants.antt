use Rattle.std.proofs.Common.{◌≡◌, ℕ, ◌+◌, ◌-◌, length, get_or}
use Rattle.cb_pass.proofs.node_set.grow.Given as goal

abbrev pub invariant-words : goal.invariant-words
invariant-words l = (k : ℕ) → get_or l.words.items k 0 ≡ get_or l.initial.words.items k 0

abbrev pub decreases-words : goal.decreases-words
decreases-words l = l.at + 1 - length l.words.items
