use Rattle.cb_words.proofs.OneSaying.{asks, asked}
use Rattle.cb_words.proofs.laws.asks_to_specialise.Goals as goal

pub returns-clause-asks : goal.returns-clause-asks
returns-clause-asks c = asks

pub returns-clause-asked : goal.returns-clause-asked
returns-clause-asked c = λ here words found says. (asked here words found says).0

pub returns-clause-sound : goal.returns-clause-sound
returns-clause-sound c = λ here words found says. (asked here words found says).1
