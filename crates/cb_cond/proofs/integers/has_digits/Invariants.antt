use Rattle.std.proofs.Common.{◌≡◌, false, drop}
use Rattle.cb_cond.specs.Integers.{are_digits}
use Rattle.cb_cond.proofs.integers.has_digits.Given as goal

abbrev pub invariant-loop-byte : goal.invariant-loop-byte
invariant-loop-byte l = are_digits l.base l.after (drop l.byte-index l.bytes) ≡ are_digits l.base false l.bytes
