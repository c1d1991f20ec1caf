use Rattle.std.proofs.Common.{refl, arith}
use Rattle.cb_tree.proofs.Bones.{bones_at, bones_more}
use Rattle.cb_tree.proofs.skeleton.are_same_bones.Goals as goal

pub returns-then-not-has_same_bone : goal.returns-then-not-has_same_bone
returns-then-not-has_same_bone c = (
  λ h. absurd (cc),
  λ e. c.if-not-has_same_bone.ensures.1 (bones_at c.args.a.now c.args.b.now c.loop-i.i e),
)

pub loop-i-preserved : goal.loop-i-preserved
loop-i-preserved c =
    bones_more c.args.a.now c.args.b.now c.loop-i.i (omega (arith, c.loop-i-test.true, c.len-i-end.ensures))
    (omega (arith, c.loop-i-test.true, c.len-i-end.ensures, c.len.ensures, c.len-2.ensures, c.if-len.false)) c.loop-i.invariant (c.if-not-has_same_bone.ensures.0 refl)
