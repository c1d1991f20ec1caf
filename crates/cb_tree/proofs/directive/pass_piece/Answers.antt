use Rattle.std.proofs.Common.{[], ◌∷◌, length, take, ap, sym, arith}
use Rattle.std.proofs.lemmas.List.{append-nil}
use Rattle.cb_tokens.specs.declared.token.PieceKind.TheVariants as kinds
use Rattle.cb_tree.proofs.Pieces.{shorter, within}
use Rattle.cb_tree.proofs.Runs.{front_bytes, kept_few}
use Rattle.cb_tree.proofs.Rows.{one_kept}
use Rattle.cb_tree.proofs.Directives.{directive_white, directive_comment, directive_token, directive_ends_line, directive_ends_source}
use Rattle.cb_tree.proofs.directive.pass_piece.Goals as goal

pub returns-in-None-clause-goes : goal.returns-in-None-clause-goes
returns-in-None-clause-goes c = record {
  kept = [];
  added = sym (append-nil c.args.tokens.now.items);
  goes = λ ms own line.
      rw (append-nil own) (directive_ends_source ms own c.args.spaced c.args.counted.now c.args.walk.now (rw c.in-None.is at c.in_ok-look_ahead.ensures) line);
}

pub returns-in-White-clause-goes : goal.returns-in-White-clause-goes
returns-in-White-clause-goes c = record {
  kept = [];
  added = sym (append-nil c.args.tokens.now.items);
  goes = λ ms own line.
      rw (append-nil own, c.pass_ahead.ensures)
      (directive_white ms own c.args.spaced c.args.counted.now c.args.walk.now c.in-Some.piece.len (rw (c.in-Some.is, c.in-White.is) at c.in_ok-look_ahead.ensures) line);
}

pub returns-in-White-clause-shorter : goal.returns-in-White-clause-shorter
returns-in-White-clause-shorter c =
    rw c.pass_ahead.ensures (shorter c.args.walk.now kinds.White c.in-Some.piece.len (rw (c.in-Some.is, c.in-White.is) at c.in_ok-look_ahead.ensures))

pub returns-in-Comment-clause-goes : goal.returns-in-Comment-clause-goes
returns-in-Comment-clause-goes c = record {
  kept = [];
  added = sym (append-nil c.args.tokens.now.items);
  goes = λ ms own line.
      rw (append-nil own, c.pass.ensures)
      (directive_comment ms own c.args.spaced c.args.counted.now c.args.walk.now c.in-Some.piece.len (rw (c.in-Some.is, c.in-Comment.is) at c.in_ok-look_ahead.ensures) line);
}

pub returns-in-Comment-clause-shorter : goal.returns-in-Comment-clause-shorter
returns-in-Comment-clause-shorter c =
    rw c.pass.ensures (shorter c.args.walk.now kinds.Comment c.in-Some.piece.len (rw (c.in-Some.is, c.in-Comment.is) at c.in_ok-look_ahead.ensures))

pub returns-in-LineEnd-clause-goes : goal.returns-in-LineEnd-clause-goes
returns-in-LineEnd-clause-goes c = record {
  kept = [];
  added = sym (append-nil c.args.tokens.now.items);
  goes = λ ms own line.
      rw (append-nil own, c.pass_ahead-in-LineEnd.ensures)
      (directive_ends_line ms own c.args.spaced c.args.counted.now c.args.walk.now c.in-Some.piece.len (rw (c.in-Some.is, c.in-LineEnd.is) at c.in_ok-look_ahead.ensures) line);
}

pub returns-in_ok-pass_counted-in-Token-clause-goes : goal.returns-in_ok-pass_counted-in-Token-clause-goes
returns-in_ok-pass_counted-in-Token-clause-goes c = record {
  kept = record { kind = c.in-Token.kind; text = take c.in-Some.piece.len c.rest.result.now; spaced = c.args.spaced } ∷ [];
  added = c.in_ok-keep_token-in-Token.ensures;
  goes = λ ms own line.
      rw (c.in_ok-pass_counted-in-Token.ensures.passed, c.in_ok-pass_counted-in-Token.ensures.counted)
      (directive_token ms own c.args.spaced c.args.counted.now c.args.walk.now c.in-Token.kind c.in-Some.piece.len _
      (rw (c.in-Some.is, c.in-Token.is) at c.in_ok-look_ahead.ensures) (sym (front_bytes c.in-Some.piece.len c.rest.result.now _ c.rest.ensures)) line);
}

pub returns-in_ok-pass_counted-in-Token-clause-shorter : goal.returns-in_ok-pass_counted-in-Token-clause-shorter
returns-in_ok-pass_counted-in-Token-clause-shorter c =
    rw c.in_ok-pass_counted-in-Token.ensures.passed
    (shorter c.args.walk.now (kinds.Token c.in-Token.kind) c.in-Some.piece.len (rw (c.in-Some.is, c.in-Token.is) at c.in_ok-look_ahead.ensures))

pub returns-in_ok-pass_counted-in-Token-clause-few : goal.returns-in_ok-pass_counted-in-Token-clause-few
returns-in_ok-pass_counted-in-Token-clause-few c =
    rw (c.in_ok-pass_counted-in-Token.ensures.passed, c.in_ok-pass_counted-in-Token.ensures.counted)
    (kept_few c.in-Some.piece.len c.args.walk.now c.args.counted.now
    (within c.args.walk.now (kinds.Token c.in-Token.kind) c.in-Some.piece.len (rw (c.in-Some.is, c.in-Token.is) at c.in_ok-look_ahead.ensures)))

pub returns-in_ok-pass_counted-in-Token-clause-few_tokens : goal.returns-in_ok-pass_counted-in-Token-clause-few_tokens
returns-in_ok-pass_counted-in-Token-clause-few_tokens c =
    omega (
      arith,
      one_kept _ _ _ c.in_ok-keep_token-in-Token.ensures,
      ap length c.in_ok-pass_counted-in-Token.ensures.passed,
      shorter c.args.walk.now (kinds.Token c.in-Token.kind) c.in-Some.piece.len (rw (c.in-Some.is, c.in-Token.is) at c.in_ok-look_ahead.ensures),
    )
