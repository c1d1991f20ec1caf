use Rattle.std.proofs.Common.{take, ap, ◌∙◌, ◌+◌, ◌≤◌, arith, rules}
use Rattle.std.proofs.lemmas.List.{with_items_is, places}
use Rattle.cb_outside.proofs.Prefixes.{Consumes-more}
use Rattle.cb_outside.proofs.reading.fill.Goals as goal

pub reads-preserved : goal.reads-preserved
reads-preserved g c =
    let fits : c.reads.filled + c.in_ok-count.count ≤ c.lengthen.new.bytes.len = omega (arith, c.in_ok-count.ensures.fits) in
    record {
      within = omega (arith, c.lengthen.ensures.bound);
      filled = fits;
      bound = c.lengthen.ensures.bound;
      room = c.lengthen.ensures.room;
      kept = c.in_ok-count.ensures.kept ∙ c.reads.invariant.kept;
      content = rw (with_items_is c.lengthen.new.bytes c.read_after.new.buf (search (rules, places)))
          (Consumes-more _ _ _ _ _ _ _ (c.read_after.ensures.front ∙ ap (take c.reads.filled) c.as_mut_slice.ensures.value ∙ c.lengthen.ensures.front) c.reads.invariant.content
          c.in_ok-count.ensures.content);
    }
