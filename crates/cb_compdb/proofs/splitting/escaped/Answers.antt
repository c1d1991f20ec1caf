use Rattle.cb_compdb.proofs.SplitSteps.{inner_escape_read}
use Rattle.cb_compdb.proofs.splitting.escaped.Goals as goal

pub returns-in_ok-add-in-Some-clause-leads : goal.returns-in_ok-add-in-Some-clause-leads
returns-in_ok-add-in-Some-clause-leads c =
    inner_escape_read c.in-Some.byte.now c.args.bytes.now c.in-Some.left.now c.args.splitter.now c.add.new.self c.in-Some.ensures.cases.0 c.in_ok-add-in-Some.ensures
