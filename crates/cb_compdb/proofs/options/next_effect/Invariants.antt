use Rattle.std.proofs.Common.{◌≡◌, ◌≤◌, length}
use Rattle.cb_compdb.specs.Options.{effects_of}
use Rattle.cb_compdb.proofs.options.next_effect.Given as goal

abbrev pub invariant-words : goal.invariant-words
invariant-words l = record {
  same : effects_of l.words ≡ effects_of l.left;
  within : length l.left ≤ length l.words;
}

abbrev pub decreases-words : goal.decreases-words
decreases-words l = length l.left
