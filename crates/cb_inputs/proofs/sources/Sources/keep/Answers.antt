use Rattle.std.proofs.Common.{◌∙◌, ap}
use Rattle.cb_inputs.specs.Sources.{source_texts}
use Rattle.cb_inputs.proofs.KeptSources.{kept_put, texts_put}
use Rattle.cb_inputs.proofs.sources.Sources.keep.Goals as goal

pub invariant_of-self : goal.invariant_of-self
invariant_of-self g c =
    rw c.in-Ok.ensures.entries (kept_put c.self.inside.map.entries c.args.self.now c.self.inside.total c.args.fresh.total c.args.path.now c.args.bytes.now c.args.fresh.source c.self.view_is c.requires.same_bytes c.self.invariant c.requires.read c.requires.few c.requires.total c.requires.within)

pub returns-in-Ok-clause-accepted : goal.returns-in-Ok-clause-accepted
returns-in-Ok-clause-accepted g c =
    ap source_texts c.in-Ok.ensures.entries ∙ texts_put c.self.inside.map.entries c.args.self.now c.args.path.now c.args.bytes.now c.args.fresh.source c.self.view_is c.requires.same_bytes
