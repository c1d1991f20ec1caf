use Rattle.std.proofs.Common.{◌∙◌, ap}
use Rattle.std.specs.BTreeMap.{insert_entry}
use Rattle.std.specs.Ordering.{nat_cmp}
use Rattle.std.specs.Cmp.Lexicographic.{slice_cmp}
use Rattle.cb_inputs.specs.Databases.{database_texts}
use Rattle.cb_inputs.proofs.KeptDatabases.{kept_put, texts_put}
use Rattle.cb_inputs.proofs.databases.Databases.keep.Goals as goal

pub invariant_of-self : goal.invariant_of-self
invariant_of-self g c =
    rw c.in-Ok.ensures.entries (kept_put c.self.inside.map.entries c.args.self.now c.self.inside.total c.args.fresh.total c.args.path.now c.args.bytes.now c.args.fresh.database c.self.view_is c.requires.same_bytes c.self.invariant c.requires.read c.requires.few c.requires.total c.requires.within)

pub returns-in-Ok-clause-accepted : goal.returns-in-Ok-clause-accepted
returns-in-Ok-clause-accepted g c =
    ap database_texts c.in-Ok.ensures.entries ∙ texts_put c.self.inside.map.entries c.args.self.now c.args.path.now c.args.bytes.now c.args.fresh.database c.self.view_is c.requires.same_bytes

pub returns-in-Ok-clause-entries : goal.returns-in-Ok-clause-entries
returns-in-Ok-clause-entries g c =
    c.in-Ok.ensures.entries ∙ ap (λ es. insert_entry (slice_cmp nat_cmp) es c.args.path.now c.args.fresh.database) c.self.view_is
