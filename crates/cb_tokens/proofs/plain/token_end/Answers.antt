use Rattle.std.proofs.Common.{◌<◌, arith}
use Rattle.cb_tokens.proofs.Cutting.{piece_some}
use Rattle.cb_tokens.proofs.plain.token_end.Goals as goal

pub returns-in-Piece-Token-default-clause-within : goal.returns-in-Piece-Token-default-clause-within
returns-in-Piece-Token-default-clause-within c =
    let some : 0 < c.in-Piece-Token-default.len = piece_some c.behind.result.now c.in-Piece-Token-default.kind c.in-Piece-Token-default.len c.in-Piece-Token-default.ensures in
    (omega arith, omega arith)
