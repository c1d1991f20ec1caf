use Rattle.cb_expand.specs.inner.Gathers.{IsSoFar}
use Rattle.cb_expand.proofs.gathering.some_ends.Given as goal

abbrev pub invariant-arguments : goal.invariant-arguments
invariant-arguments l = IsSoFar l.row.tokens.items l.floor l.height l.count l.is_variadic l.ends.items l.from l.left

abbrev pub decreases-arguments : goal.decreases-arguments
decreases-arguments l = l.left
