use Rattle.std.proofs.Common.{sym, subst, arith}
use Rattle.cb_paste.specs.Shades.{AreIn}
use Rattle.paste_tests.proofs.Held.{token_push}
use Rattle.paste_tests.proofs.substitution.tokens_of.Goals as goal

pub words-preserved : goal.words-preserved
words-preserved c =
    subst (λ l. AreIn 0 l) (sym c.in_ok-push.ensures.items)
    (token_push 0 c.words.tokens.items c.in_ok-token.token c.words.invariant (omega (arith, c.in_ok-token.ensures)))
