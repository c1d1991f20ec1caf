use Rattle.std.proofs.Common.{◌≡◌, false, rules}
use Rattle.cb_paste.proofs.Sides.{none_has}
use Rattle.cb_paste.proofs.hides.Hides.made.Goals as goal

pub returns-then-eq-clause-places : goal.returns-then-eq-clause-places
returns-then-eq-clause-places c = let e : c.args.cell ≡ record { here = false; odd = 0; even = 0 } = search rules in
    none_has c.args.self.now c.args.cell e
