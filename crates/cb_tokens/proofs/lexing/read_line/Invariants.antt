use Rattle.std.proofs.Common.{length}
use Rattle.cb_tokens.proofs.Reading.{HasRead}
use Rattle.cb_tokens.proofs.lexing.read_line.Given as goal

abbrev pub invariant-pieces : goal.invariant-pieces
invariant-pieces l = HasRead l.fn.walk l.walk l.tokens.items l.counted l.spaced

abbrev pub decreases-pieces : goal.decreases-pieces
decreases-pieces l = length l.walk
