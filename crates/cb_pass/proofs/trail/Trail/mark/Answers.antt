use Rattle.std.proofs.Common.{length, ap, arith}
use Rattle.cb_pass.specs.inner.Trails.{Findings}
use Rattle.cb_pass.proofs.trail.Trail.mark.Goals as goal

pub invariant_of-self : goal.invariant_of-self
invariant_of-self c = (
  omega (arith, c.add_node.ensures.within, c.self.invariant.0, c.requires.place, ap (λ (t : Findings). length t.probes) c.self.view_is),
  c.self.invariant.1,
)
