use Rattle.std.proofs.Common.{◌≡◌, length, map, string_bytes}
use Rattle.codebasin.specs.Words.{words_in}
use Rattle.codebasin.proofs.CommandWords.{found_before}
use Rattle.codebasin.proofs.words.words_in.Given as goal

-- the words so far, and those in the arguments that are left
abbrev pub invariant-words : goal.invariant-words
invariant-words l =
    found_before l.words.items (words_in (map string_bytes l.rest)) ≡ words_in (map string_bytes l.arguments)

abbrev pub decreases-words : goal.decreases-words
decreases-words l = length l.rest
