use Rattle.std.proofs.Common.{◌∙◌, sym, ap, arith}
use Rattle.std.specs.BTreeMap.{is_at}
use Rattle.std.specs.Ordering.{nat_cmp}
use Rattle.std.specs.Cmp.Lexicographic.{slice_cmp}
use Rattle.cb_outside.specs.Tables.{removed}
use Rattle.cb_inputs.specs.declared.source.Source.{Source}
use Rattle.cb_inputs.specs.Sources.{source_texts}
use Rattle.cb_inputs.proofs.Maps.{read_removed, sized_without}
use Rattle.cb_inputs.proofs.KeptSources.{kept_removed}
use Rattle.cb_inputs.proofs.sources.Sources.remove.Goals as goal

pub overflow_sub-self : goal.overflow_sub-self
overflow_sub-self g c =
    let less = sized_without (λ (d : Source). d.bytes) c.self.inside.map.entries c.args.path.now c.in-Some.source.now (sym c.in-Some.ensures.value) in
    omega (arith, c.len.ensures, c.self.invariant.counted, less.1)

pub invariant_of-self : goal.invariant_of-self
invariant_of-self g c =
    rw c.remove-in-Ok.ensures.entries (kept_removed c.self.inside.map.entries c.self.inside.total c.len.result c.args.path.now c.in-Some.source.now c.self.invariant (sym c.in-Some.ensures.value) c.len.ensures)

pub returns-in-Ok-clause-accepted : goal.returns-in-Ok-clause-accepted
returns-in-Ok-clause-accepted g c =
    ap source_texts c.remove-in-Ok.ensures.entries ∙ (read_removed (λ (d : Source). d.bytes) (is_at (slice_cmp nat_cmp c.args.path.now)) c.self.inside.map.entries ∙ ap (λ es. removed c.args.path.now (source_texts es)) c.self.view_is)
