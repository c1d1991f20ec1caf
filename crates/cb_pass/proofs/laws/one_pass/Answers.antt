use Rattle.cb_pass.proofs.One.{one_outcome}
use Rattle.cb_pass.proofs.laws.one_pass.Goals as goal

pub returns : goal.returns
returns c =
    one_outcome c.one_expansion.ensures c.one_condition.ensures.answer c.one_word.ensures.defined c.one_word.ensures.undefined
