use Rattle.cb_tree.proofs.SomeReading.{some_reading, reading_counted}
use Rattle.cb_tree.proofs.laws.every_reading.Goals as goal

pub returns : goal.returns
returns c = record { some = some_reading c.some_cut.ensures.cut; counted = reading_counted }
