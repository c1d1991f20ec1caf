use Rattle.std.proofs.Common.{◌∙◌}
use Rattle.cb_pass.proofs.Words.{behind_end}
use Rattle.cb_pass.proofs.node_set.grow.Goals as goal

pub words-preserved : goal.words-preserved
words-preserved c = λ k. rw c.in_ok-push.ensures.items (behind_end _ k ∙ c.words.invariant k)
