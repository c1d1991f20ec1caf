-- A place in the table is one in what it is seen as.
use Rattle.std.proofs.Common.{◌∙◌}
use Rattle.cb_macro.proofs.TableLemmas.{place-seen, place-within, place-found}
use Rattle.cb_macro.proofs.macros.Macros.place_of.Goals as goal

pub returns-clause-place : goal.returns-clause-place
returns-clause-place c =
    rw (← c.self.view_is) (place-within _ c.args.name.now _ (c.get_index_of.ensures.index ∙ place-seen (λ k. k.items) c.args.name.now c.self.inside.table.entries))

pub returns-clause-found : goal.returns-clause-found
returns-clause-found c =
    rw (← c.self.view_is) (place-found _ c.args.name.now _ (c.get_index_of.ensures.index ∙ place-seen (λ k. k.items) c.args.name.now c.self.inside.table.entries))
