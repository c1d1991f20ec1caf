use Rattle.std.proofs.Common.{sym, subst, arith}
use Rattle.cb_paste.specs.Shades.{AreIn}
use Rattle.cb_paste.proofs.Copies.{argument_in}
use Rattle.cb_paste.proofs.argument.tokens_of.Goals as goal

pub returns-then-raw-clause-within : goal.returns-then-raw-clause-within
returns-then-raw-clause-within c = λ count given.
    subst (λ l. AreIn count l) (sym c.as_slice.ensures.value)
    (argument_in count c.args.arguments.now c.args.i c.index-arguments-i.result (omega arith) c.index-arguments-i.is given).0

pub returns-clause-within : goal.returns-clause-within
returns-clause-within c = λ count given.
    subst (λ l. AreIn count l) (sym c.as_slice-2.ensures.value)
    (argument_in count c.args.arguments.now c.args.i c.index-arguments-i.result (omega arith) c.index-arguments-i.is given).1
