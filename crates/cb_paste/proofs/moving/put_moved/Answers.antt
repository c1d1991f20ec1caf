use Rattle.std.proofs.Common.{false, map, sym, ◌∙◌, ap, arith}
use Rattle.std.proofs.lemmas.List.{nil_from_length}
use Rattle.cb_paste.specs.Shades.{seen}
use Rattle.cb_paste.specs.Puts.{put_one}
use Rattle.cb_paste.specs.inner.Slots.{seen_slot}
use Rattle.cb_paste.specs.inner.Given.{tokens_puts}
use Rattle.cb_paste.proofs.Counts.{put_none}
use Rattle.cb_paste.proofs.moving.put_moved.Goals as goal

pub returns-else-beside-clause-put : goal.returns-else-beside-clause-put
returns-else-beside-clause-put c =
    sym
    (ap (λ b. put_one (map (seen_slot c.args.arena.now) c.args.slots.now) c.args.part.now.glued (tokens_puts b c.args.part.now.spaced (map (seen c.args.arena.now) c.args.tokens.items))) c.if-beside.false
    ∙ (ap (λ l. put_one (map (seen_slot c.args.arena.now) c.args.slots.now) c.args.part.now.glued (tokens_puts false c.args.part.now.spaced (map (seen c.args.arena.now) l))) (nil_from_length c.args.tokens.items (omega (arith, c.in-None.ensures.cases.0, c.into_iter-tokens.ensures.len, c.args.tokens.ok.0)))
    ∙ put_none (map (seen_slot c.args.arena.now) c.args.slots.now) c.args.part.now.glued))
