use Rattle.cb_measure.proofs.Consumed.{seen_all}
use Rattle.cb_measure.proofs.laws.one_reading.Goals as goal

pub returns : goal.returns
returns c text records h = seen_all h.0 text h.1 records h.2 h.3
