use Rattle.std.proofs.Common.{◌≡◌, length, map, string_bytes}
use Rattle.cb_words.specs.Specialise.{words_in}
use Rattle.cb_words.proofs.FoundWords.{found_before}
use Rattle.cb_words.proofs.specialise.words_in.Given as goal

-- the words so far, and those in the words that are left
abbrev pub invariant-words : goal.invariant-words
invariant-words l =
    found_before l.found.items (words_in (map string_bytes l.rest)) ≡ words_in (map string_bytes l.words)

abbrev pub decreases-words : goal.decreases-words
decreases-words l = length l.rest
