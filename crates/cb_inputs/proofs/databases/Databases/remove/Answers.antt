use Rattle.std.proofs.Common.{◌∙◌, sym, ap, arith}
use Rattle.std.specs.BTreeMap.{is_at}
use Rattle.std.specs.Map.{remove_entry}
use Rattle.std.specs.Ordering.{nat_cmp}
use Rattle.std.specs.Cmp.Lexicographic.{slice_cmp}
use Rattle.cb_outside.specs.Tables.{removed}
use Rattle.cb_inputs.specs.declared.database.Database.{Database}
use Rattle.cb_inputs.specs.Databases.{database_texts}
use Rattle.cb_inputs.proofs.Maps.{read_removed, sized_without}
use Rattle.cb_inputs.proofs.KeptDatabases.{kept_removed}
use Rattle.cb_inputs.proofs.databases.Databases.remove.Goals as goal

pub overflow_sub-self : goal.overflow_sub-self
overflow_sub-self g c =
    let less = sized_without (λ (d : Database). d.bytes) c.self.inside.map.entries c.args.path.now c.in-Some.database.now (sym c.in-Some.ensures.value) in
    omega (arith, c.len.ensures, c.self.invariant.counted, less.1)

pub invariant_of-self : goal.invariant_of-self
invariant_of-self g c =
    rw c.remove-in-Ok.ensures.entries (kept_removed c.self.inside.map.entries c.self.inside.total c.len.result c.args.path.now c.in-Some.database.now c.self.invariant (sym c.in-Some.ensures.value) c.len.ensures)

pub returns-in-Ok-clause-accepted : goal.returns-in-Ok-clause-accepted
returns-in-Ok-clause-accepted g c =
    ap database_texts c.remove-in-Ok.ensures.entries ∙ (read_removed (λ (d : Database). d.bytes) (is_at (slice_cmp nat_cmp c.args.path.now)) c.self.inside.map.entries ∙ ap (λ es. removed c.args.path.now (database_texts es)) c.self.view_is)

pub returns-in-Ok-clause-entries : goal.returns-in-Ok-clause-entries
returns-in-Ok-clause-entries g c =
    c.remove-in-Ok.ensures.entries ∙ ap (λ es. remove_entry (is_at (slice_cmp nat_cmp c.args.path.now)) es) c.self.view_is
