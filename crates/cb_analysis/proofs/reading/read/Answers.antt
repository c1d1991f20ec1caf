use Rattle.toml.specs.View.{table_view}
use Rattle.cb_analysis.proofs.Files.{with_table, refused}
use Rattle.cb_analysis.proofs.reading.read.Goals as goal

pub returns-in-Ok-clause-contents : goal.returns-in-Ok-clause-contents
returns-in-Ok-clause-contents c =
    rw (with_table c.args.bytes.now (table_view c.in-Ok.table) c.in-Ok.ensures.ok.0 c.in-Ok.ensures.ok.1) c.read_table.ensures.contents

pub returns-in-Ok-clause-bad : goal.returns-in-Ok-clause-bad
returns-in-Ok-clause-bad c =
    rw (with_table c.args.bytes.now (table_view c.in-Ok.table) c.in-Ok.ensures.ok.0 c.in-Ok.ensures.ok.1) c.read_table.ensures.bad

pub returns-in-Err-clause-bad : goal.returns-in-Err-clause-bad
returns-in-Err-clause-bad c = refused c.args.bytes.now c.refusal.result c.in-Err.error c.refusal.ensures c.in-Err.ensures.refused
