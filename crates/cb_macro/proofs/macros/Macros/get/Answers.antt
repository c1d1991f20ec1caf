-- A look-up in the table is one in what it is seen as.
use Rattle.std.proofs.Common.{◌∙◌}
use Rattle.cb_macro.proofs.TableLemmas.{lookup-seen}
use Rattle.cb_macro.proofs.macros.Macros.get.Goals as goal

pub returns : goal.returns
returns c = rw (← c.self.view_is) (c.get.ensures.value ∙ lookup-seen (λ k. k.items) c.args.name.now c.self.inside.table.entries)
