use Rattle.std.proofs.Common.{All, subst}
use Rattle.std.specs.Map.{values_of}
use Rattle.cb_inputs.specs.declared.source.Source.{Source}
use Rattle.cb_inputs.specs.Texts.{ByPath}
use Rattle.cb_inputs.specs.Sources.{IsReadSource}
use Rattle.cb_inputs.proofs.sources.Sources.len.Goals as goal

pub returns-clause-read : goal.returns-clause-read
returns-clause-read c = subst (λ (es : ByPath Source). All IsReadSource (values_of es)) c.self.view_is c.self.invariant.read
