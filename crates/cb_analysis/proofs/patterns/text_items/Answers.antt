use Rattle.std.proofs.Common.{◌∙◌, sym, map}
use Rattle.toml.specs.View.{view}
use Rattle.cb_analysis.specs.Tables.{is_text}
use Rattle.cb_analysis.proofs.Lists.{all_mapped, text_list, texts_list}
use Rattle.cb_analysis.proofs.patterns.text_items.Goals as goal

pub returns-then-not-are_texts-clause-other : goal.returns-then-not-are_texts-clause-other
returns-then-not-are_texts-clause-other c =
    let values = c.in-Some.items.now.items in
    text_list (view c.args.value.now) (map view values) _ c.in-Some.ensures
    (sym (all_mapped is_text view values) ∙ rw (← c.as_slice.ensures.value) (sym c.if-not-are_texts.ensures))

pub returns-clause-texts : goal.returns-clause-texts
returns-clause-texts c =
    let values = c.in-Some.items.now.items in
    text_list (view c.args.value.now) (map view values) _ c.in-Some.ensures
    (sym (all_mapped is_text view values) ∙ rw (← c.as_slice.ensures.value) (sym c.if-not-are_texts.ensures))

pub returns-clause-items : goal.returns-clause-items
returns-clause-items c = rw c.as_slice-2.ensures.value (texts_list (view c.args.value.now) (map view c.in-Some.items.now.items) c.in-Some.ensures)

pub returns-clause-all : goal.returns-clause-all
returns-clause-all c =
    let values = c.in-Some.items.now.items in
    rw c.as_slice-2.ensures.value (sym (all_mapped is_text view values) ∙ rw (← c.as_slice.ensures.value) (sym c.if-not-are_texts.ensures))
