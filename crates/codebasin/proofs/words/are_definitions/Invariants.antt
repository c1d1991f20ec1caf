use Rattle.std.proofs.Common.{ℕ, ◌<◌, List, get_or}
use Rattle.codebasin.specs.Words.{IsDefinition}
use Rattle.codebasin.proofs.words.are_definitions.Given as goal

-- the words before this one are definitions
abbrev pub invariant-words : goal.invariant-words
invariant-words l = (k : ℕ) → k < l.word-index → (d : List ℕ) → IsDefinition (get_or l.words k d)
