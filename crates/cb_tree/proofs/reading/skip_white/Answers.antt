use Rattle.std.proofs.Common.{[]}
use Rattle.std.proofs.lemmas.Result.{err_from_is_err_and}
use Rattle.cb_tree.proofs.Pieces.{shorter}
use Rattle.cb_tree.proofs.ReadsMore.{reads_on, reads_blank, tells_after}
use Rattle.cb_tree.proofs.reading.skip_white.Goals as goal

pub returns-in_err-piece-clause-next : goal.returns-in_err-piece-clause-next
returns-in_err-piece-clause-next c =
    let p = err_from_is_err_and c.from_residual.result c.from_residual.ensures.1 in
    rw (p.1, p.2) (tells_after _ c.pieces.walk [] c.in_err-piece.field-0.0 c.pieces.invariant c.in_err-piece.ensures)

pub pieces-smaller : goal.pieces-smaller
pieces-smaller c =
    rw c.pass_ahead.ensures (shorter c.pieces.walk c.in-Some.piece.kind c.in-Some.piece.len (rw c.in-Some.is at c.in_ok-piece.ensures))

pub pieces-preserved : goal.pieces-preserved
pieces-preserved c =
    rw c.pass_ahead.ensures
    (reads_on _ [] c.pieces.walk [] _ c.pieces.invariant
    (reads_blank c.pieces.walk c.in-Some.piece.kind c.in-Some.piece.len (rw c.in-Some.is at c.in_ok-piece.ensures) c.in-None.ensures))
