use Rattle.std.proofs.Common.{◌≡◌, Option, List, ℕ, IfOk, option_and_then, sym, ap, subst}
use Rattle.serde_json.specs.View.{view}
use Rattle.cb_compdb.specs.Databases.{texts_of}
use Rattle.cb_compdb.proofs.Items.{items_read}
use Rattle.cb_compdb.proofs.reading.texts_in.Goals as goal

pub returns-in-Some : goal.returns-in-Some
returns-in-Some c =
    let P : Option (List (List ℕ)) → Type 0 = λ all. IfOk c.texts_of.result (λ texts. texts ≡ all) in
    let items = items_read view (view c.args.value.now) c.in-Some.values.now.items c.as_slice.result.now c.in-Some.ensures c.as_slice.ensures.value in
    subst P (ap (option_and_then texts_of) (sym items)) c.texts_of.ensures
