use Rattle.std.proofs.Common.{◌∙◌, sym, ap, length, Some, None, IfSome, subst}
use Rattle.cb_inputs.specs.Databases.{IsReadDatabase}
use Rattle.cb_inputs.proofs.EntryCounts.{few_entries, entries_there}
use Rattle.cb_inputs.proofs.commands.entry_count.Goals as goal

pub returns-in-Some-clause-count : goal.returns-in-Some-clause-count
returns-in-Some-clause-count c =
    c.len.ensures ∙ sym (ap length (entries_there c.args.databases.now c.args.path.now (Some c.in-Some.database.now) (sym c.in-Some.ensures.value)))

pub returns-in-Some-clause-few : goal.returns-in-Some-clause-few
returns-in-Some-clause-few c =
    rw c.len.ensures (few_entries c.in-Some.database.now (subst (λ o. IfSome o IsReadDatabase) (sym c.in-Some.ensures.value) c.in-Some.ensures.read))

pub returns-in-None-clause-count : goal.returns-in-None-clause-count
returns-in-None-clause-count c =
    sym (ap length (entries_there c.args.databases.now c.args.path.now None (sym c.in-None.ensures.value)))
