use Rattle.std.proofs.Common.{ap, ◌∙◌}
use Rattle.std.specs.Ordering.{nat_cmp}
use Rattle.std.specs.BTreeMap.{is_at}
use Rattle.std.specs.Cmp.Lexicographic.{slice_cmp}
use Rattle.cb_outside.specs.Tables.{removed}
use Rattle.cb_outside.specs.inner.Maps.{texts_of}
use Rattle.cb_outside.proofs.Maps.{texts_removed}
use Rattle.cb_outside.proofs.text_map.TextMap.remove.Goals as goal

pub returns : goal.returns
returns c =
    ap texts_of c.remove.ensures.entries
    ∙ texts_removed (λ k. k.items) (is_at (slice_cmp nat_cmp c.args.key.now)) c.self.inside.map.entries
    ∙ ap (removed c.args.key.now) c.self.view_is
