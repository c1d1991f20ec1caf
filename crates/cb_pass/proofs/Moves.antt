-- Steps of a pass follow one another.
use Rattle.std.proofs.Common.{◌≡◌, false, sym, subst}
use Rattle.cb_include.specs.declared.command.Command.{Command}
use Rattle.cb_pass.specs.States.{State}
use Rattle.cb_pass.specs.Files.{Files}
use Rattle.cb_pass.specs.Passes.{Leads, goes, is_over}
use Rattle.cb_pass.specs.inner.Moves.{Goes, IsStep}

module _ (files : Files) (command : Command) where
  pub goes_itself : (s : State) → Goes files command s s
  goes_itself s = λ end more. more

  pub goes_on : (a b c : State) → Goes files command a b → Goes files command b c → Goes files command a c
  goes_on a b c p q = λ end more. p end (q end more)

  pub step_goes : (s t : State) → is_over s ≡ false → IsStep files command s t → Goes files command s t
  step_goes s t e step = λ end more. goes e step.0 step.1 (subst (λ (u : State). Leads files command end u) step.2 more)

  pub same_goes : (s t : State) → s ≡ t → Goes files command s t
  same_goes s t e = λ end more. subst (λ (u : State). Leads files command end u) (sym e) more
