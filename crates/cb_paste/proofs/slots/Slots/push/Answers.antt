use Rattle.std.proofs.Common.{◌∷◌, [], ap, arith}
use Rattle.cb_paste.specs.inner.Slots.{token_count}
use Rattle.cb_paste.proofs.Standing.{token_count-append, token_count_le}
use Rattle.cb_paste.proofs.slots.Slots.push.Goals as goal

pub overflow_add-tokens : goal.overflow_add-tokens
overflow_add-tokens c =
    omega (arith, c.self.invariant, c.tokens.ensures, token_count_le c.self.inside.items.items, token_count_le (c.args.slot ∷ []))

pub returns-then-tokens-room-clause-long : goal.returns-then-tokens-room-clause-long
returns-then-tokens-room-clause-long c = λ _.
    omega (arith, c.self.invariant, c.tokens.ensures, ap token_count c.self.view_is, token_count-append c.args.self.now (c.args.slot ∷ []))

pub invariant_of-self-2 : goal.invariant_of-self-2
invariant_of-self-2 c =
    omega (arith, c.self.invariant, c.tokens.ensures, ap token_count c.in_ok-push.ensures.items, token_count-append c.self.inside.items.items (c.args.slot ∷ []))

pub returns-clause-fits : goal.returns-clause-fits
returns-clause-fits c =
    omega (arith, c.self.invariant, c.tokens.ensures, ap token_count c.in_ok-push.ensures.items, token_count-append c.self.inside.items.items (c.args.slot ∷ []))
