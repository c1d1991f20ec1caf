use Rattle.std.proofs.Common.{ℕ, List, [], sym, subst}
use Rattle.cb_paste.specs.declared.argument.Argument.{Argument}
use Rattle.cb_paste.specs.declared.work_token.WorkToken.{WorkToken}
use Rattle.cb_paste.specs.Shades.{AreIn}
use Rattle.std.proofs.Common.{◌≡◌}
use Rattle.cb_paste.specs.Puts.{AreArgumentsIn}
use Rattle.cb_expand.proofs.Resuming.{arguments_append}
use Rattle.cb_expand.proofs.steps.all_arguments.Goals as goal

empty_in : (count : ℕ) (raw expanded : List WorkToken) → raw ≡ [] → expanded ≡ [] → AreIn count raw × AreIn count expanded
empty_in count raw expanded p q =
    (subst (λ (ts : List WorkToken). AreIn count ts) (sym p) tt, subst (λ (ts : List WorkToken). AreIn count ts) (sym q) tt)

pub returns-clause-within : goal.returns-clause-within
returns-clause-within c = λ count h.
    let e = empty_in count c.new.result.items c.new-2.result.items c.new.ensures.items c.new-2.ensures.items in
    subst (λ (xs : List Argument). AreArgumentsIn count xs) (sym c.in_ok-push.ensures.items) (arguments_append count _ _ h (e.0, e.1, tt))
