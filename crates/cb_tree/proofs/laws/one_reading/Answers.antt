use Rattle.cb_tree.proofs.OneReading.{one_reading}
use Rattle.cb_tree.proofs.laws.one_reading.Goals as goal

pub returns : goal.returns
returns c =
    one_reading (record { lines = c.one_cut.ensures.lines; no_cut = c.one_cut.ensures.no_cut; line = c.one_cut.ensures.line })
