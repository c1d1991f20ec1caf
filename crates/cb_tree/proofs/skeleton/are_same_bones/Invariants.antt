use Rattle.std.proofs.Common.{◌≡◌, take}
use Rattle.cb_tree.specs.Skeleton.{skeleton}
use Rattle.cb_tree.proofs.skeleton.are_same_bones.Given as goal

abbrev pub invariant-loop-i : goal.invariant-loop-i
invariant-loop-i l = skeleton (take l.i l.a) ≡ skeleton (take l.i l.b)
