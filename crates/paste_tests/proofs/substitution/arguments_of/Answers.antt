use Rattle.std.proofs.Common.{sym, subst}
use Rattle.cb_paste.specs.Puts.{AreArgumentsIn}
use Rattle.paste_tests.proofs.Held.{argument_push}
use Rattle.paste_tests.proofs.substitution.arguments_of.Goals as goal

pub arguments-preserved : goal.arguments-preserved
arguments-preserved c =
    subst (λ l. AreArgumentsIn 0 l) (sym c.in_ok-push.ensures.items)
    (argument_push 0 c.arguments.arguments.items _ c.arguments.invariant c.in_ok-raw.ensures c.in_ok-expanded.ensures)
