use Rattle.std.proofs.Common.{◌∙◌, ap, take}
use Rattle.std.proofs.lemmas.List.{take-take}
use Rattle.cb_paths.proofs.bytes.front.Goals as goal

pub returns-clause-text : goal.returns-clause-text
returns-clause-text c = ap (λ bytes. take c.args.len bytes) c.copy_from_slice.ensures.after ∙ take-take c.args.len 14 c.args.bytes.now c.requires.few
