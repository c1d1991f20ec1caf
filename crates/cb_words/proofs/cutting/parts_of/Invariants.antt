use Rattle.std.proofs.Common.{◌≡◌, ◌++◌, length, map, string_bytes}
use Rattle.cb_words.specs.Parts.{parts_of}
use Rattle.cb_words.proofs.cutting.parts_of.Given as goal

-- the parts so far, and those of the words that are left
abbrev pub invariant-words : goal.invariant-words
invariant-words l =
    l.parts.items ++ parts_of l.options (map string_bytes l.rest) ≡ parts_of l.options (map string_bytes l.words)

abbrev pub decreases-words : goal.decreases-words
decreases-words l = length l.rest
