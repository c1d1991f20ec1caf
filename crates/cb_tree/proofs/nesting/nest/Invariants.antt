use Rattle.cb_tree.proofs.NestSteps.{Nested}
use Rattle.cb_tree.proofs.nesting.nest.Given as goal

abbrev pub invariant-loop-i : goal.invariant-loop-i
invariant-loop-i l = Nested l.nodes l.i l.nesting
