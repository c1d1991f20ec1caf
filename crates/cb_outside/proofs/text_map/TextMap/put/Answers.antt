use Rattle.std.proofs.Common.{ap, ◌∙◌}
use Rattle.std.specs.Ordering.{nat_cmp}
use Rattle.std.specs.Cmp.Lexicographic.{slice_cmp}
use Rattle.cb_outside.specs.Tables.{put}
use Rattle.cb_outside.specs.inner.Maps.{texts_of}
use Rattle.cb_outside.proofs.Maps.{texts_put}
use Rattle.cb_outside.proofs.text_map.TextMap.put.Goals as goal

pub returns-clause-kept : goal.returns-clause-kept
returns-clause-kept c =
    ap texts_of c.in_ok-insert.ensures.entries
    ∙ texts_put (λ k. k.items) (slice_cmp nat_cmp) c.self.inside.map.entries c.in_ok-key.key c.in_ok-bytes.bytes
    ∙ ap (λ k. put k c.in_ok-bytes.bytes (texts_of c.self.inside.map.entries)) c.in_ok-key.ensures.items
    ∙ ap (λ b. put c.args.key.now b (texts_of c.self.inside.map.entries)) c.in_ok-bytes.ensures
    ∙ ap (put c.args.key.now c.args.bytes.now) c.self.view_is
