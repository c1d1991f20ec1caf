use Rattle.cb_inputs.proofs.DatabasePuts.{still_few}
use Rattle.cb_inputs.proofs.inputs.Inputs.put_database.Goals as goal

pub invariant_of-self : goal.invariant_of-self
invariant_of-self g c =
    let kept = c.self.inside in
    still_few c.keep.result kept.databases c.keep.new.self c.args.path.now c.in-Ok.fresh.database kept.analysis kept.sources kept.measurements c.self.invariant c.in-Ok.ensures.commands c.keep.ensures.entries c.keep.ensures.unchanged
