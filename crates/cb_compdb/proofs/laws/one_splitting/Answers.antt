use Rattle.cb_compdb.proofs.OneSplitting.{one_words, no_words}
use Rattle.cb_compdb.proofs.laws.one_splitting.Goals as goal

pub returns-clause-words : goal.returns-clause-words
returns-clause-words c = one_words

pub returns-clause-no_words : goal.returns-clause-no_words
returns-clause-no_words c = no_words
