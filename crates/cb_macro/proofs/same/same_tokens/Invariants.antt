-- The lists are the same so far.
use Rattle.std.proofs.Common.{◌≡◌, take}
use Rattle.cb_macro.proofs.same.same_tokens.Given as goal

abbrev pub invariant-loop-at : goal.invariant-loop-at
invariant-loop-at l = take l.at l.tokens ≡ take l.at l.others
