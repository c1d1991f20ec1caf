use Rattle.std.proofs.Common.{sym, subst}
use Rattle.cb_paste.specs.Shades.{AreIn}
use Rattle.cb_paste.proofs.Stacks.{in_push}
use Rattle.cb_paste.proofs.stacking.push_own.Goals as goal

pub returns-clause-within : goal.returns-clause-within
returns-clause-within c = λ count h o.
    subst (λ l. AreIn count l) (sym c.in_ok-push.ensures.items) (in_push count c.args.stack.now.items _ o h)
