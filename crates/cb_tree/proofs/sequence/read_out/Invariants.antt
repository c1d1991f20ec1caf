use Rattle.std.proofs.Common.{length, List}
use Rattle.cb_tokens.specs.Cut.{Piece, Cuts}
use Rattle.cb_tree.proofs.sequence.read_out.Given as goal

abbrev pub invariant-pieces : goal.invariant-pieces
invariant-pieces l = (pieces : List Piece) × Cuts l.fn.walk pieces l.walk

abbrev pub decreases-pieces : goal.decreases-pieces
decreases-pieces l = length l.walk
