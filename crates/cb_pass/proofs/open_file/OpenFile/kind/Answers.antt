use Rattle.std.proofs.Common.{◌≡◌, subst}
use Rattle.std.specs.Prelude.{Some}
use Rattle.cb_pass.specs.inner.Trails.{Opened, next_kind}
use Rattle.cb_pass.proofs.Nodes.{some_kind}
use Rattle.cb_pass.proofs.open_file.OpenFile.kind.Goals as goal

pub returns-then-self : goal.returns-then-self
returns-then-self c =
    subst (λ (o : Opened). Some c.kind.result ≡ next_kind o.frame.rest) c.self.view_is
    (some_kind c.self.inside.tree.now c.self.inside.passed c.kind.result c.kind.ensures)
