use Rattle.cb_paths.proofs.Folders.{top_kept}
use Rattle.cb_paths.proofs.dir.Dir.top.Goals as goal

pub invariant_of-result : goal.invariant_of-result
invariant_of-result c = top_kept _ c.in_ok-text.ensures
