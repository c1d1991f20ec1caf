use Rattle.std.proofs.Common.{◌<◌, length, subst, sym, arith}
use Rattle.cb_pass.specs.inner.Trails.{Opened}
use Rattle.cb_pass.proofs.Nodes.{is_within}
use Rattle.cb_pass.proofs.open_file.OpenFile.node.Goals as goal

pub overflow_add-result : goal.overflow_add-result
overflow_add-result c =
    let inside = c.self.inside in
    let within : inside.passed < length inside.tree.now =
    is_within inside.tree.now inside.passed (subst (λ (o : Opened). 0 < length o.frame.rest) (sym c.self.view_is) c.requires) in
    omega (arith, within, c.self.invariant)
