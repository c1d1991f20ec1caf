use Rattle.std.proofs.Common.{◌≡◌, true, false}
use Rattle.cb_measure.proofs.Consumed.{behind_more, behind_all}
use Rattle.cb_measure.proofs.records.next.Goals as goal

pub returns-in-Ok-clause-found : goal.returns-in-Ok-clause-found
returns-in-Ok-clause-found c h text seen behind =
    let e : c.in-Ok.found ≡ true = cc h in
    behind_more c.args.reader.now c.read_byte_record.new.self _ text seen behind (rw e at (c.in-Ok.ensures.reads behind.trim behind.ready)) (c.in-Ok.ensures.ready behind.trim)

pub returns-in-Ok-clause-ended : goal.returns-in-Ok-clause-ended
returns-in-Ok-clause-ended c h text seen behind =
    let e : c.in-Ok.found ≡ false = cc h in
    behind_all c.args.reader.now c.read_byte_record.new.self _ text seen behind (rw e at (c.in-Ok.ensures.reads behind.trim behind.ready))
