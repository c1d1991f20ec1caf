use Rattle.std.proofs.Common.{◌≡◌, inl, inr, refl, List, [], subst}
use Rattle.cb_lines.specs.declared.mark.Mark.{Mark}
use Rattle.cb_tokens.specs.Cut.{Cuts}
use Rattle.cb_tree.specs.inner.Reads.{piece_nodes}
use Rattle.cb_tree.proofs.Pieces.{shorter}
use Rattle.cb_tree.proofs.NodeSteps.{cuts_on, reads_cut, open_behind}
use Rattle.cb_tree.proofs.sequence.read_out.Goals as goal

pub pieces-smaller : goal.pieces-smaller
pieces-smaller c =
    rw c.pass.ensures (shorter c.pieces.walk c.in-Ok-Some.piece.kind c.in-Ok-Some.piece.len (rw c.in-Ok-Some.field-0-is at c.in-Ok-Some.ensures))

pub pieces-preserved : goal.pieces-preserved
pieces-preserved c =
    rw c.pass.ensures
    (cuts_on _ c.pieces.invariant.0 c.pieces.walk c.in-Ok-Some.piece.kind c.in-Ok-Some.piece.len c.pieces.invariant.1 (rw c.in-Ok-Some.field-0-is at c.in-Ok-Some.ensures))

pub returns-in-Ok-None : goal.returns-in-Ok-None
returns-in-Ok-None c =
    let P : List Mark → Type 0 = λ rest. Cuts c.args.walk.now c.pieces.invariant.0 rest in
    let end : c.pieces.walk ≡ [] = rw c.in-Ok-None.field-0-is at c.in-Ok-None.ensures in
    inl (refl, piece_nodes c.pieces.invariant.0, reads_cut c.args.walk.now c.pieces.invariant.0 (subst P end c.pieces.invariant.1))

pub returns-in-Err : goal.returns-in-Err
returns-in-Err c = inr (open_behind c.args.walk.now c.pieces.invariant.0 c.pieces.walk c.in-Err.open_comment c.pieces.invariant.1 c.in-Err.ensures)
