use Rattle.std.proofs.Common.{◌≡◌, take}
use Rattle.std.specs.List.{filter_map}
use Rattle.cb_words.specs.Values.{plain_word}
use Rattle.cb_words.proofs.values.all_plain_words.Given as goal

-- the words of the parts so far
abbrev pub invariant-parts : goal.invariant-parts
invariant-parts l = l.words ≡ filter_map plain_word (take l.part-index l.parts)
