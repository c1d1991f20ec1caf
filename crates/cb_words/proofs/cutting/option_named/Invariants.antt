use Rattle.std.proofs.Common.{◌≡◌, drop}
use Rattle.cb_words.specs.Parts.{option_named}
use Rattle.cb_words.proofs.cutting.option_named.Given as goal

-- the word names none of the options so far
abbrev pub invariant-options : goal.invariant-options
invariant-options l = option_named (drop l.option-index l.options) l.word ≡ option_named l.options l.word
