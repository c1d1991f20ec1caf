use Rattle.std.proofs.Common.{ℕ, ◌<◌, List, get_or}
use Rattle.cb_words.specs.Specialise.{IsDefinition}
use Rattle.cb_words.proofs.specialise.are_definitions.Given as goal

-- the words before this one are definitions
abbrev pub invariant-words : goal.invariant-words
invariant-words l = (k : ℕ) → k < l.word-index → (d : List ℕ) → IsDefinition (get_or l.words k d)
