use Rattle.std.proofs.Common.{◌≡◌, false, true, sym, subst, arith}
use Rattle.cb_include.specs.Seen.{has_path}
use Rattle.cb_pass.specs.Ends.{Kept, reached_in}
use Rattle.cb_pass.proofs.Rows.{found_there, lost}
use Rattle.cb_pass.proofs.passed.Passed.reached.Goals as goal

pub returns-in-Some-clause-probed : goal.returns-in-Some-clause-probed
returns-in-Some-clause-probed c = λ _.
    subst (λ (k : Kept). has_path k.probes c.args.path.now ≡ true) c.self.view_is
    (found_there c.args.path.now c.self.inside.probes c.in-Some.place (sym c.in-Some.ensures))

pub returns-in-None-clause-reached : goal.returns-in-None-clause-reached
returns-in-None-clause-reached c =
    subst (λ (k : Kept). false ≡ reached_in k c.args.path.now c.args.node) c.self.view_is
    (lost c.args.path.now c.self.inside.probes c.self.inside.rows.items c.args.node (omega (arith, c.self.invariant)) (sym c.in-None.ensures))
