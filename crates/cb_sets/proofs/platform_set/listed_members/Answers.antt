use Rattle.cb_sets.proofs.Listed.{members_listed, members_within}
use Rattle.cb_sets.proofs.platform_set.listed_members.Goals as goal

pub returns-clause-listed : goal.returns-clause-listed
returns-clause-listed c = λ set count all. members_listed c.rising_sets.ensures.same set count all

pub returns-clause-within : goal.returns-clause-within
returns-clause-within c = λ set. members_within set
