use Rattle.std.proofs.Common.{◌-◌, drop, refl, subst, arith}
use Prim.Native.Nat.{suc}
use Rattle.cb_tree.specs.Skeleton.{skeleton}
use Rattle.cb_pass.specs.States.{Frame}
use Rattle.cb_pass.specs.inner.Trails.{Opened}
use Rattle.cb_pass.specs.inner.Moves.{Leaps}
use Rattle.cb_pass.proofs.Nodes.{leap}
use Rattle.cb_pass.proofs.open_file.OpenFile.leap.Goals as goal

pub returns-in-Some-clause-moved : goal.returns-in-Some-clause-moved
returns-in-Some-clause-moved c =
    let inside = c.self.inside in
    let end = c.in-Some.end in
    let f : Frame = record { path = inside.path; node = suc inside.passed; rest = drop inside.passed (skeleton inside.tree.now); depth = inside.depth; sections = inside.sections } in
    subst (λ (o : Opened). Leaps o.frame (record f { node = suc (end - 1); rest = drop (end - 1) (skeleton inside.tree.now) })) c.self.view_is
    (leap inside.tree.now f inside.passed end refl refl c.in-Some.ensures.end (omega (arith, c.in-Some.ensures.behind)))
