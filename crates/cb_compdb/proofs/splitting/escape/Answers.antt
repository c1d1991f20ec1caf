use Rattle.cb_compdb.proofs.SplitSteps.{escape_read, lone_read}
use Rattle.cb_compdb.proofs.splitting.escape.Goals as goal

pub returns-in_ok-add-in-Some-clause-leads : goal.returns-in_ok-add-in-Some-clause-leads
returns-in_ok-add-in-Some-clause-leads c =
    escape_read c.in-Some.byte.now c.args.bytes.now c.in-Some.left.now c.args.splitter.now c.add.new.self c.in-Some.ensures.cases.0 c.in_ok-add-in-Some.ensures

pub returns-in_ok-add-in-None-clause-leads : goal.returns-in_ok-add-in-None-clause-leads
returns-in_ok-add-in-None-clause-leads c =
    lone_read c.args.bytes.now c.args.splitter.now c.add-in-None.new.self c.in-None.ensures.cases c.in_ok-add-in-None.ensures
