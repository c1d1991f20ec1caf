-- One more parameter without a use.
use Rattle.std.proofs.Common.{rules, refl}
use Rattle.cb_macro.proofs.UseLemmas.{unused_more}
use Rattle.cb_macro.proofs.uses.unused.Goals as goal

pub uses-preserved : goal.uses-preserved
uses-preserved c = record {
  within = search rules;
  noted = rw c.in_ok-push.ensures.items (unused_more _ _ c.uses.invariant.noted refl);
}
