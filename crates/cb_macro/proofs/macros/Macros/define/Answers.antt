-- One more entry of the table is one more of what it is seen as.
use Rattle.std.proofs.Common.{◌∙◌, ap, sym, Some}
use Rattle.cb_macro.specs.Maps.{found}
use Rattle.cb_macro.proofs.TableLemmas.{seen, insert-seen, update-seen, change-seen}
use Rattle.cb_macro.proofs.macros.Macros.define.Goals as goal

pub returns-clause-defined : goal.returns-clause-defined
returns-clause-defined c = λ other.
    let name = c.in_ok-name.ensures.items ∙ c.as_slice.ensures in
    rw (← c.self.view_is, ← name)
    (update-seen (λ k. k.items) c.in_ok-name.name.items other c.self.inside.table.entries c.insert.new.self.entries (Some c.args.defined.body)
    c.in_ok-other.ensures.updates.1 c.in_ok-other.ensures.updates.3)

pub returns-clause-entries : goal.returns-clause-entries
returns-clause-entries c =
    let name = c.in_ok-name.ensures.items ∙ c.as_slice.ensures in
    rw (← c.self.view_is, ← name)
    (ap (seen (λ k. k.items)) c.in_ok-other.ensures.entries ∙ insert-seen (λ k. k.items) c.self.inside.table.entries c.in_ok-name.name c.args.defined.body)

pub returns-clause-different : goal.returns-clause-different
returns-clause-different c =
    let name = c.in_ok-name.ensures.items ∙ c.as_slice.ensures in
    rw (← c.self.view_is, ← name)
    (change-seen (λ k. k.items) c.in_ok-name.name c.self.inside.table.entries c.insert.new.self.entries c.args.defined.body c.in_ok-other.other c.is_changed.result
    c.in_ok-other.ensures.updates.1 c.in_ok-other.ensures.old
    (λ body h. c.is_changed.ensures body (ap (found (seen (λ k. k.items) c.insert.new.self.entries)) (c.as_slice-2.ensures ∙ sym name) ∙ h)))
