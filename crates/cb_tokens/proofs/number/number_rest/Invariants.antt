use Rattle.std.proofs.Common.{length, ◌-◌, ◌≤◌}
use Rattle.cb_tokens.proofs.Numbers.{NumberAhead}
use Rattle.cb_tokens.proofs.number.number_rest.Given as goal

abbrev pub invariant-bytes : goal.invariant-bytes
invariant-bytes l = (l.n ≤ length l.bytes) × NumberAhead l.before l.last l.bytes l.n

abbrev pub decreases-bytes : goal.decreases-bytes
decreases-bytes l = length l.bytes - l.n
