use Rattle.std.proofs.Common.{◌≡◌, take}
use Rattle.cb_cond.specs.Integers.{amount}
use Rattle.cb_cond.proofs.integers.amount_of.Given as goal

abbrev pub invariant-loop-byte : goal.invariant-loop-byte
invariant-loop-byte l = l.sum ≡ amount l.base (take l.byte-index l.digits)
