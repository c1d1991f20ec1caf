use Rattle.cb_compdb.proofs.OneDatabase.{one_entries, one_first, not_both}
use Rattle.cb_compdb.proofs.laws.one_database.Goals as goal

pub returns-clause-entries : goal.returns-clause-entries
returns-clause-entries c = one_entries

pub returns-clause-fault : goal.returns-clause-fault
returns-clause-fault c = one_first

pub returns-clause-not_both : goal.returns-clause-not_both
returns-clause-not_both c = not_both
