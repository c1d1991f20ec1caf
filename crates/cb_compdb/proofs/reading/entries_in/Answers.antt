use Rattle.std.proofs.Common.{◌≡◌, ◌≤◌, map, length, Some, List, arith}
use Rattle.std.proofs.lemmas.Result.{IfOk-weaker, IfErr-weaker}
use Rattle.std.proofs.lemmas.List.{length-map}
use Rattle.serde_json.specs.Data.{Data}
use Rattle.serde_json.specs.View.{view}
use Rattle.cb_compdb.specs.Databases.{AreEntries, HasEntries, items_in}
use Rattle.cb_compdb.specs.inner.Items.{TellsItem, TellsValue}
use Rattle.cb_compdb.specs.declared.entry.Entry.{Entry}
use Rattle.cb_compdb.specs.declared.fault.DatabaseFault.{DatabaseFault}
use Rattle.cb_compdb.proofs.Items.{database_read, database_fails}
use Rattle.cb_compdb.proofs.reading.entries_in.Goals as goal

pub returns-clause-entries : goal.returns-clause-entries
returns-clause-entries c =
    let items = map view c.args.values.now in
    let few : length items ≤ 20000 = omega (arith, length-map c.args.values.now view) in
    let Q : List Entry → Type 0 = λ entries. (d : Data) → items_in d ≡ Some items → HasEntries d entries in
    IfOk-weaker c.entries_of.result (AreEntries items) Q (λ entries all d is. database_read d items entries is few all) c.entries_of.ensures.entries

pub returns-clause-fault : goal.returns-clause-fault
returns-clause-fault c =
    let items = map view c.args.values.now in
    let few : length items ≤ 20000 = omega (arith, length-map c.args.values.now view) in
    let P : DatabaseFault → Type 0 = λ fault. TellsItem fault items in
    let Q : DatabaseFault → Type 0 = λ fault. (d : Data) → items_in d ≡ Some items → TellsValue fault d in
    IfErr-weaker c.entries_of.result P Q (λ fault h d is. database_fails d items fault is few h) c.entries_of.ensures.fault
