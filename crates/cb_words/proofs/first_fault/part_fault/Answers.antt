use Rattle.std.proofs.Common.{sym, ◌∙◌}
use Rattle.cb_words.proofs.FirstFault.{repeated, new}
use Rattle.cb_words.proofs.first_fault.part_fault.Goals as goal

pub returns-then-is_given : goal.returns-then-is_given
returns-then-is_given c =
    repeated c.args.before.now c.args.part.now c.in-Given.option c.in-Given.field-1.now (sym (rw c.in-Given.is at c.part.view_is)) (sym c.is_given.ensures ∙ c.if-is_given.true)

pub returns-else-is_given : goal.returns-else-is_given
returns-else-is_given c =
    new c.args.before.now c.args.part.now c.in-Given.option c.in-Given.field-1.now (sym (rw c.in-Given.is at c.part.view_is)) (sym c.is_given.ensures ∙ c.if-is_given.false)
