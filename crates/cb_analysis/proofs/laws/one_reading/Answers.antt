use Rattle.cb_analysis.proofs.Files.{with_table, no_table}
use Rattle.cb_analysis.proofs.laws.one_reading.Goals as goal

pub returns : goal.returns
returns c = record { table = with_table; none = no_table }
