use Rattle.std.proofs.Common.{false, map, sym, ◌∙◌, ap}
use Rattle.std.proofs.lemmas.List.{nil_from_length}
use Rattle.cb_paste.specs.Shades.{seen}
use Rattle.cb_paste.specs.Puts.{put_one}
use Rattle.cb_paste.specs.inner.Slots.{seen_slot}
use Rattle.cb_paste.specs.inner.Given.{tokens_puts}
use Rattle.cb_paste.proofs.Counts.{put_none}
use Rattle.cb_paste.proofs.copying.put_argument.Goals as goal

pub returns-else-beside-clause-put : goal.returns-else-beside-clause-put
returns-else-beside-clause-put c =
    sym
    (ap (λ b. put_one (map (seen_slot c.args.arena.now) c.args.slots.now) c.args.part.now.glued (tokens_puts b c.args.part.now.spaced (map (seen c.args.arena.now) c.args.tokens.now))) c.if-beside.false
    ∙ (ap (λ l. put_one (map (seen_slot c.args.arena.now) c.args.slots.now) c.args.part.now.glued (tokens_puts false c.args.part.now.spaced (map (seen c.args.arena.now) l))) (nil_from_length c.args.tokens.now c.in-None.ensures.cases)
    ∙ put_none (map (seen_slot c.args.arena.now) c.args.slots.now) c.args.part.now.glued))
