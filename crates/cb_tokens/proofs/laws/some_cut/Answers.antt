use Rattle.cb_tokens.proofs.SomeCut.{some_first, some_cut}
use Rattle.cb_tokens.proofs.laws.some_cut.Goals as goal

pub returns : goal.returns
returns c = record { first = some_first; cut = some_cut }
