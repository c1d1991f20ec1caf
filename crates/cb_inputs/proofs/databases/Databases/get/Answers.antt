use Rattle.std.proofs.Common.{IfSome, subst}
use Rattle.std.specs.BTreeMap.{is_at}
use Rattle.std.specs.Ordering.{nat_cmp}
use Rattle.std.specs.Cmp.Lexicographic.{slice_cmp}
use Rattle.std.proofs.lemmas.Map.Views.{IfSome-lookup_from_All}
use Rattle.cb_inputs.specs.declared.database.Database.{Database}
use Rattle.cb_inputs.specs.Texts.{ByPath, value_at}
use Rattle.cb_inputs.specs.Databases.{IsReadDatabase}
use Rattle.cb_inputs.proofs.databases.Databases.get.Goals as goal

pub returns-clause-read : goal.returns-clause-read
returns-clause-read c =
    subst (λ (es : ByPath Database). IfSome (value_at c.args.path.now es) IsReadDatabase) c.self.view_is
    (IfSome-lookup_from_All IsReadDatabase (is_at (slice_cmp nat_cmp c.args.path.now)) c.self.inside.map.entries c.self.invariant.read)
