use Rattle.cb_tokens.specs.declared.token.PieceKind.TheVariants as kinds
use Rattle.cb_tree.proofs.Pieces.{shorter}
use Rattle.cb_tree.proofs.Runs.{run_ends_with_source, run_white, run_comment, run_line_end}
use Rattle.cb_tree.proofs.run.pass_piece.Goals as goal

pub returns-in-None-clause-goes : goal.returns-in-None-clause-goes
returns-in-None-clause-goes c = λ ms run.
    run_ends_with_source ms c.args.place c.args.counted.now c.args.walk.now (rw c.in-None.is at c.in_ok-look_ahead.ensures) run

pub returns-in-White-clause-goes : goal.returns-in-White-clause-goes
returns-in-White-clause-goes c = λ ms run.
    rw c.pass_ahead.ensures (run_white ms c.args.place c.args.counted.now c.args.walk.now c.in-Some.piece.len (rw (c.in-Some.is, c.in-White.is) at c.in_ok-look_ahead.ensures) run)

pub returns-in-White-clause-shorter : goal.returns-in-White-clause-shorter
returns-in-White-clause-shorter c =
    rw c.pass_ahead.ensures (shorter c.args.walk.now kinds.White c.in-Some.piece.len (rw (c.in-Some.is, c.in-White.is) at c.in_ok-look_ahead.ensures))

pub returns-in-Comment-clause-goes : goal.returns-in-Comment-clause-goes
returns-in-Comment-clause-goes c = λ ms run.
    rw c.pass.ensures (run_comment ms c.args.place c.args.counted.now c.args.walk.now c.in-Some.piece.len (rw (c.in-Some.is, c.in-Comment.is) at c.in_ok-look_ahead.ensures) run)

pub returns-in-Comment-clause-shorter : goal.returns-in-Comment-clause-shorter
returns-in-Comment-clause-shorter c =
    rw c.pass.ensures (shorter c.args.walk.now kinds.Comment c.in-Some.piece.len (rw (c.in-Some.is, c.in-Comment.is) at c.in_ok-look_ahead.ensures))

pub returns-in-LineEnd-clause-goes : goal.returns-in-LineEnd-clause-goes
returns-in-LineEnd-clause-goes c = λ ms run.
    rw c.pass_ahead-in-LineEnd.ensures (run_line_end ms c.args.place c.args.counted.now c.args.walk.now c.in-Some.piece.len (rw (c.in-Some.is, c.in-LineEnd.is) at c.in_ok-look_ahead.ensures) run)

pub returns-in-LineEnd-clause-shorter : goal.returns-in-LineEnd-clause-shorter
returns-in-LineEnd-clause-shorter c =
    rw c.pass_ahead-in-LineEnd.ensures (shorter c.args.walk.now kinds.LineEnd c.in-Some.piece.len (rw (c.in-Some.is, c.in-LineEnd.is) at c.in_ok-look_ahead.ensures))
