use Rattle.cb_include.proofs.Agreeing.{same_found, same_asked, found_asked}
use Rattle.cb_include.proofs.laws.one_search.Goals as goal

pub returns-clause-found : goal.returns-clause-found
returns-clause-found c = same_found

pub returns-clause-probed : goal.returns-clause-probed
returns-clause-probed c = same_asked

pub returns-clause-present : goal.returns-clause-present
returns-clause-present c some found paths h = (found_asked some found paths h).0

pub returns-clause-asked : goal.returns-clause-asked
returns-clause-asked c some found paths h = (found_asked some found paths h).1
