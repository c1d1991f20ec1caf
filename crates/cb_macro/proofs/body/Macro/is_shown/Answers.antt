-- The use that is kept is that of the parts.
use Rattle.std.proofs.Common.{◌∙◌, ap}
use Rattle.cb_macro.specs.declared.uses.Use.{Use}
use Rattle.cb_macro.proofs.UseLemmas.{kept_use, shown_of}
use Rattle.cb_macro.proofs.body.Macro.is_shown.Goals as goal

pub returns : goal.returns
returns c = ap (λ (u : Use). u.is_shown) (kept_use _ _ _ _ _ _ c.self.view_is c.self.invariant c.requires c.index.ensures) ∙ shown_of _ _
