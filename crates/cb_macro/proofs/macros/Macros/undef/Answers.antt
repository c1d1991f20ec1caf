-- One entry of the table less is one less of what it is seen as.
use Rattle.std.proofs.Common.{◌∙◌, ap, None}
use Rattle.cb_macro.proofs.TableLemmas.{seen, remove-seen, update-seen}
use Rattle.cb_macro.proofs.macros.Macros.undef.Goals as goal

pub returns-clause-undefined : goal.returns-clause-undefined
returns-clause-undefined c = λ other.
    rw (← c.self.view_is)
    (update-seen (λ k. k.items) c.args.name.now other c.self.inside.table.entries c.swap_remove.new.self.entries None
    c.swap_remove.ensures.updates.1 c.swap_remove.ensures.updates.3)

pub returns-clause-entries : goal.returns-clause-entries
returns-clause-entries c =
    rw (← c.self.view_is)
    (ap (seen (λ k. k.items)) c.swap_remove.ensures.entries ∙ remove-seen (λ k. k.items) c.args.name.now c.self.inside.table.entries)
