use Rattle.cb_words.proofs.OneSaying.{one_said}
use Rattle.cb_words.proofs.laws.one_saying.Goals as goal

pub returns : goal.returns
returns c = one_said
