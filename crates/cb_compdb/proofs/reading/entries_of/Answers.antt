use Rattle.std.proofs.Common.{◌≡◌, true, rules}
use Rattle.std.specs.Result.{is_ok}
use Rattle.serde_json.specs.View.{view}
use Rattle.cb_compdb.proofs.Items.{entries_more, fails_here}
use Rattle.cb_compdb.proofs.reading.entries_of.Goals as goal

pub returns-in-Err-clause-fault : goal.returns-in-Err-clause-fault
returns-in-Err-clause-fault c =
    rw c.fault_at.ensures
    (fails_here view c.args.values.now c.items.place c.index-values-place.result c.items.items.items c.in-Err.fault c.items-test.true c.index-values-place.is c.items.invariant c.in-Err.ensures.fault)

pub items-preserved : goal.items-preserved
items-preserved c =
    let good : is_ok c.push.result ≡ true = search rules in
    let items = rw good at c.push.ensures.items in
    rw items
    (entries_more view c.args.values.now c.items.place c.index-values-place.result c.items.items.items c.in-Ok.entry c.items-test.true c.index-values-place.is c.items.invariant c.in-Ok.ensures.entry)
