use Rattle.std.proofs.Common.{◌≡◌, map, Some, List}
use Rattle.std.proofs.lemmas.Result.{IfOk-weaker, IfErr-weaker}
use Rattle.serde_json.specs.Data.{Data}
use Rattle.serde_json.specs.View.{view}
use Rattle.cb_compdb.specs.Databases.{HasEntries, items_in}
use Rattle.cb_compdb.specs.inner.Items.{TellsValue}
use Rattle.cb_compdb.specs.declared.entry.Entry.{Entry}
use Rattle.cb_compdb.specs.declared.fault.DatabaseFault.{DatabaseFault}
use Rattle.cb_compdb.proofs.Items.{items_read}
use Rattle.cb_compdb.proofs.reading.database.Goals as goal

pub returns-in-Some-clause-entries : goal.returns-in-Some-clause-entries
returns-in-Some-clause-entries c =
    let d = view c.args.value.now in
    let items = map view c.as_slice.result.now in
    let is = items_read view d c.in-Some.values.now.items c.as_slice.result.now c.in-Some.ensures c.as_slice.ensures.value in
    let P : List Entry → Type 0 = λ entries. (d : Data) → items_in d ≡ Some items → HasEntries d entries in
    IfOk-weaker c.entries_in.result P (HasEntries d) (λ entries h. h d is) c.entries_in.ensures.entries

pub returns-in-Some-clause-fault : goal.returns-in-Some-clause-fault
returns-in-Some-clause-fault c =
    let d = view c.args.value.now in
    let items = map view c.as_slice.result.now in
    let is = items_read view d c.in-Some.values.now.items c.as_slice.result.now c.in-Some.ensures c.as_slice.ensures.value in
    let P : DatabaseFault → Type 0 = λ fault. (d : Data) → items_in d ≡ Some items → TellsValue fault d in
    let Q : DatabaseFault → Type 0 = λ fault. TellsValue fault d in
    IfErr-weaker c.entries_in.result P Q (λ fault h. h d is) c.entries_in.ensures.fault
