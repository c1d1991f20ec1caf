use Rattle.std.proofs.Common.{◌≡◌, ◌+◌, ◌-◌, ◌^◌, min, take}
use Rattle.cb_lines.specs.inner.Held.{feeds}
use Rattle.cb_lines.proofs.walking.line_behind_all.Given as goal

abbrev pub invariant-loop-byte : goal.invariant-loop-byte
invariant-loop-byte l = l.line ≡ min (2 ^ 32 - 1) (l.from + feeds (take l.byte-index l.bytes))
