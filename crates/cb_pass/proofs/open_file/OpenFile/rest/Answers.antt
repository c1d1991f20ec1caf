use Rattle.std.proofs.Common.{◌≡◌, subst}
use Rattle.cb_pass.specs.inner.Trails.{Opened, next_rest}
use Rattle.cb_pass.proofs.Nodes.{its_rest}
use Rattle.cb_pass.proofs.open_file.OpenFile.rest.Goals as goal

pub returns-then-self : goal.returns-then-self
returns-then-self c =
    subst (λ (o : Opened). c.rest.result.now ≡ next_rest o.frame.rest) c.self.view_is
    (its_rest c.self.inside.tree.now c.self.inside.passed c.rest.result.now c.rest.ensures)
