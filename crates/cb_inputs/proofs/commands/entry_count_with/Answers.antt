use Rattle.std.proofs.Common.{◌∙◌, sym}
use Rattle.cb_inputs.proofs.EntryCounts.{few_entries}
use Rattle.cb_inputs.proofs.PutEntries.{entries_here, entries_elsewhere}
use Rattle.cb_inputs.proofs.commands.entry_count_with.Goals as goal

pub returns-then-eq-clause-count : goal.returns-then-eq-clause-count
returns-then-eq-clause-count c =
    c.len.ensures ∙ sym (entries_here c.args.databases.now c.args.key.now c.args.fresh.now c.args.path.now (sym c.eq.ensures ∙ c.if-eq.true))

pub returns-then-eq-clause-few : goal.returns-then-eq-clause-few
returns-then-eq-clause-few c = rw c.len.ensures (few_entries c.args.fresh.now c.requires.read)

pub returns-clause-count : goal.returns-clause-count
returns-clause-count c =
    c.entry_count.ensures.count ∙ sym (entries_elsewhere c.args.databases.now c.args.key.now c.args.fresh.now c.args.path.now (sym c.eq.ensures ∙ c.if-eq.false))
