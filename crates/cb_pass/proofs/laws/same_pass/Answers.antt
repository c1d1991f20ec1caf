use Rattle.cb_pass.proofs.Agreeing.{same_pass}
use Rattle.cb_pass.proofs.laws.same_pass.Goals as goal

pub returns : goal.returns
returns c = λ files other command end pass agree. same_pass files other command end pass agree
