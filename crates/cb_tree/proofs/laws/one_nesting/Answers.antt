use Rattle.cb_tree.proofs.OneNesting.{one_nesting}
use Rattle.cb_tree.proofs.laws.one_nesting.Goals as goal

pub returns : goal.returns
returns c = one_nesting
