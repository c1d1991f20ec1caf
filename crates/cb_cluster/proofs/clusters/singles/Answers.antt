use Rattle.std.proofs.Common.{◌∷◌, [], ◌++◌, ◌+◌, sym, ap, ◌∙◌}
use Rattle.cb_cluster.proofs.Listed.{singles_more}
use Rattle.cb_cluster.proofs.clusters.singles.Goals as goal

pub loop-platform-preserved : goal.loop-platform-preserved
loop-platform-preserved c =
    c.in_ok-push.ensures.items ∙ ap (λ r. r ++ (c.loop-platform.platform + 1) ∷ []) c.loop-platform.invariant ∙ sym (singles_more c.loop-platform.platform)
