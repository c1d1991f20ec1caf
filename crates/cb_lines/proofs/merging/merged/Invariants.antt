use Rattle.std.proofs.Common.{◌+◌, length}
use Rattle.cb_lines.proofs.Merged.{Merges}
use Rattle.cb_lines.proofs.merging.merged.Given as goal

abbrev pub invariant-spans : goal.invariant-spans
invariant-spans l = Merges l.left l.right l.spans l.pair.left.now l.pair.right.now

abbrev pub decreases-spans : goal.decreases-spans
decreases-spans l = length l.pair.left.now + length l.pair.right.now
