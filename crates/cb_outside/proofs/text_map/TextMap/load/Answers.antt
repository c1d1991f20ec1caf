use Rattle.std.proofs.Common.{ℕ, List, Some, ap, ◌∙◌, sym, slice_get, option_map}
use Rattle.std.proofs.lemmas.Option.{slice_get-map}
use Rattle.std.proofs.lemmas.Iterator.Consumers.{nth_from_yields_List, YieldsList-from_rest}
use Rattle.std.specs.declared.option.Option.{Option}
use Rattle.cb_outside.specs.declared.kept.Kept.{Kept}
use Rattle.cb_outside.specs.Tables.{entries_in}
use Rattle.cb_outside.specs.inner.Maps.{texts_of}
use Rattle.cb_outside.proofs.text_map.TextMap.load.Goals as goal

pub returns-in_ok-bytes-in-Some : goal.returns-in_ok-bytes-in-Some
returns-in_ok-bytes-in-Some c =
    let entries = c.self.inside.map.entries in
    let entry : List ℕ → List ℕ → Option Kept = λ key bytes. Some (record { table = c.args.table; key = key; bytes = bytes }) in
    let item = nth_from_yields_List (Some (c.in-Some.key, c.in-Some.bytes)) c.nth.new.self c.args.i c.in-Some.ensures.ran (YieldsList-from_rest entries c.iter.ensures.rest) in
    ap (λ t. slice_get (entries_in c.args.table t) c.args.i) (sym c.self.view_is)
    ∙ slice_get-map _ (texts_of entries) c.args.i
    ∙ ap (option_map _) (slice_get-map _ entries c.args.i ∙ ap (option_map _) (sym item))
    ∙ ap (λ key. entry key c.in-Some.bytes.now) (sym (c.in_ok-key-in-Some.ensures ∙ c.as_slice.ensures.value))
    ∙ ap (entry c.in_ok-key-in-Some.key) (sym c.in_ok-bytes-in-Some.ensures)
