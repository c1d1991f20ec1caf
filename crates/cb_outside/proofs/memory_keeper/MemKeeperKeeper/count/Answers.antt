use Rattle.std.proofs.Common.{ap, subst, ◌∙◌}
use Rattle.cb_outside.specs.Tables.{AreEntries, entries_of}
use Rattle.cb_outside.proofs.Entries.{entries_make, anyway}
use Rattle.cb_outside.proofs.memory_keeper.MemKeeperKeeper.count.Goals as goal

pub returns-clause-entries : goal.returns-clause-entries
returns-clause-entries c =
    let same = ap (λ s. s.tables) c.self.view_is ∙ ap (λ s. s.tables) c.in_ok-begin.ensures.ok in
    anyway c.match-count.result (subst (λ t. AreEntries (entries_of t) t) same (entries_make c.self.inside.tables c.count.ensures.rise))
