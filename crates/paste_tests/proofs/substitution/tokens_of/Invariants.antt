use Rattle.cb_paste.specs.Shades.{AreIn}
use Rattle.paste_tests.proofs.substitution.tokens_of.Given as goal

abbrev pub invariant-words : goal.invariant-words
invariant-words l = AreIn 0 l.tokens.items
