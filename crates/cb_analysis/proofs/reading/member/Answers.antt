use Rattle.toml.proofs.Views.{table_get}
use Rattle.cb_analysis.proofs.reading.member.Goals as goal

pub returns-in-Some : goal.returns-in-Some
returns-in-Some c = rw c.in-Some.is at (table_get c.get.result c.args.key.now c.args.table.now.entries c.get.ensures.value)

pub returns-in-None : goal.returns-in-None
returns-in-None c = rw c.in-None.is at (table_get c.get.result c.args.key.now c.args.table.now.entries c.get.ensures.value)
