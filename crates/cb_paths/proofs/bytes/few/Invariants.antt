use Rattle.std.proofs.Common.{◌≡◌, take, length}
use Rattle.cb_paths.proofs.bytes.few.Given as goal

abbrev pub invariant-loop-i : goal.invariant-loop-i
invariant-loop-i l = (take l.i l.held ≡ take l.i l.bytes) × (length l.held ≡ 14)
