use Rattle.std.proofs.Common.{◌∷◌, [], ap, arith}
use Rattle.cb_paste.specs.inner.Slots.{token_count}
use Rattle.cb_paste.proofs.Standing.{token_count-append}
use Rattle.cb_paste.proofs.slots.Slots.pop.Goals as goal

pub overflow_sub-self : goal.overflow_sub-self
overflow_sub-self c =
    omega (arith, c.self.invariant, c.tokens.ensures, ap token_count c.in-Some.ensures.items, token_count-append c.pop.new.self.items (c.in-Some.slot ∷ []))

pub invariant_of-self-in-Some : goal.invariant_of-self-in-Some
invariant_of-self-in-Some c =
    omega (arith, c.self.invariant, c.tokens.ensures, ap token_count c.in-Some.ensures.items, token_count-append c.pop.new.self.items (c.in-Some.slot ∷ []))
