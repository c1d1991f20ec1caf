use Rattle.std.proofs.Common.{◌≡◌, take}
use Rattle.cb_tree.proofs.skeleton.are_same_tokens.Given as goal

abbrev pub invariant-loop-i : goal.invariant-loop-i
invariant-loop-i l = take l.i l.a ≡ take l.i l.b
