use Rattle.std.proofs.Common.{subst}
use Rattle.cb_sets.specs.Tallies.{Tally, AreInOrder}
use Rattle.cb_sets.proofs.Placed.{in_order}
use Rattle.cb_sets.proofs.setmap.Setmap.rows.Goals as goal

pub returns-clause-order : goal.returns-clause-order
returns-clause-order c = subst (λ (t : Tally). AreInOrder t.rows) c.self.view_is (in_order 0 c.self.inside.rows.items c.self.invariant.1)
