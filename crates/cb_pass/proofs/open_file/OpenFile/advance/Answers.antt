use Rattle.std.proofs.Common.{◌<◌, length, ap, ◌∙◌, arith}
use Rattle.cb_pass.specs.inner.Trails.{Opened, next_kind}
use Rattle.cb_pass.specs.inner.Moves.{advanced}
use Rattle.cb_pass.proofs.Nodes.{advances, kind_within}
use Rattle.cb_pass.proofs.open_file.OpenFile.advance.Goals as goal

pub overflow_add-self : goal.overflow_add-self
overflow_add-self c =
    let inside = c.self.inside in
    let within : inside.passed < length inside.tree.now =
    kind_within inside.tree.now inside.passed c.args.kind (ap (λ (o : Opened). next_kind o.frame.rest) c.self.view_is ∙ c.requires) in
    omega (arith, within, c.self.invariant)

pub returns-clause-moved : goal.returns-clause-moved
returns-clause-moved c =
    let inside = c.self.inside in
    advances inside.tree.now inside.passed inside.path inside.depth inside.sections _ c.args.kind c.args.condition c.in_ok-pass.ensures
    ∙ ap (λ (o : Opened). advanced c.args.kind c.args.condition o.frame) c.self.view_is
