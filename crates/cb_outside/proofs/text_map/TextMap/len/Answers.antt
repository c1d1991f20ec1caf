use Rattle.std.proofs.Common.{length, ap, ◌∙◌, sym, subst}
use Rattle.std.proofs.lemmas.List.{length-map}
use Rattle.std.specs.Ordering.{nat_cmp}
use Rattle.std.specs.Cmp.Lexicographic.{slice_cmp}
use Rattle.cb_outside.specs.Tables.{Rise}
use Rattle.cb_outside.proofs.Maps.{texts_rise}
use Rattle.cb_outside.proofs.text_map.TextMap.len.Goals as goal

pub returns-clause-len : goal.returns-clause-len
returns-clause-len c = c.len.ensures.len ∙ sym (length-map c.self.inside.map.entries _) ∙ ap length c.self.view_is

pub returns-clause-rise : goal.returns-clause-rise
returns-clause-rise c = subst Rise c.self.view_is (texts_rise (λ k. k.items) (slice_cmp nat_cmp) c.self.inside.map.entries c.len.ensures.ordered)
