use Rattle.std.proofs.Common.{◌∙◌, ap}
use Rattle.std.proofs.Math.Path.{fun_ext}
use Rattle.cb_paste.specs.Joins.{Real}
use Rattle.cb_paste.specs.inner.Slots.{seen_slot}
use Rattle.cb_paste.proofs.Arenas.{hides_none}
use Rattle.cb_paste.proofs.slots.own_slot.Goals as goal

pub returns-clause-seen : goal.returns-clause-seen
returns-clause-seen c = λ sets.
    ap (λ s. seen_slot sets s) c.into_slot.ensures
    ∙ ap (λ f. Real (record { kind = c.args.kind; spaced = c.args.spaced; text = c.args.text; hides = f })) (fun_ext (hides_none sets))
