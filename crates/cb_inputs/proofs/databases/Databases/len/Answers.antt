use Rattle.std.proofs.Common.{All, subst}
use Rattle.std.specs.Map.{values_of}
use Rattle.cb_inputs.specs.declared.database.Database.{Database}
use Rattle.cb_inputs.specs.Texts.{ByPath}
use Rattle.cb_inputs.specs.Databases.{IsReadDatabase}
use Rattle.cb_inputs.proofs.databases.Databases.len.Goals as goal

pub returns-clause-read : goal.returns-clause-read
returns-clause-read c = subst (λ (es : ByPath Database). All IsReadDatabase (values_of es)) c.self.view_is c.self.invariant.read
