use Rattle.std.proofs.Common.{length, take, drop, min, ap, sym, ◌∙◌, arith}
use Rattle.cb_outside.proofs.Prefixes.{bytes_after, nothing_left}
use Rattle.cb_outside.proofs.memory_source.MemSourceSource.read.Goals as goal

pub returns-clause-content : goal.returns-clause-content
returns-clause-content c =
    let place = c.rest.ensures ∙ ap (drop c.self.inside.given) c.as_slice.ensures in (
      ap (λ s. s.left) (sym c.self.view_is) ∙ bytes_after _ _ _ _ (c.copy_front-count.ensures.copied ∙ ap (take c.copy_front-count.result) place),
      λ none room. nothing_left _ _ _ _ (c.copy_front-count.ensures.count ∙ ap (λ l. min (length l) c.most_of_room-most.result) place) (c.most_of_room-most.ensures.some (omega arith)) none,
    )
