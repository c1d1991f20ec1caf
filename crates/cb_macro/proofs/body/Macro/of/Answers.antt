-- The parts and the uses are those of the definition.
use Rattle.std.proofs.Common.{◌∙◌, ap, length}
use Rattle.cb_macro.proofs.UseLemmas.{parts_of}
use Rattle.cb_macro.proofs.body.Macro.of.Goals as goal

pub invariant_of-result : goal.invariant_of-result
invariant_of-result c = record {
  all_parts = c.in_ok-parts.ensures ∙ parts_of _ _ _ c.requires c.deref.ensures.value;
  count = c.in_ok-uses.ensures.count ∙ (c.len.ensures ∙ ap length c.requires);
  all_uses = rw (← c.deref-2.ensures.value) c.in_ok-uses.ensures.uses;
}
