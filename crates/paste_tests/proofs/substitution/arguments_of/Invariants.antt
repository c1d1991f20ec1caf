use Rattle.cb_paste.specs.Puts.{AreArgumentsIn}
use Rattle.paste_tests.proofs.substitution.arguments_of.Given as goal

abbrev pub invariant-arguments : goal.invariant-arguments
invariant-arguments l = AreArgumentsIn 0 l.arguments.items
