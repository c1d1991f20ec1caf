use Rattle.cb_tokens.proofs.KindsOfBytes.{no_kind_of_none, no_kind_of_comment, no_kind_of_more, no_kind_of_piece, kind_of_whole}
use Rattle.cb_tokens.specs.Cut.{IsFirst}
use Rattle.std.proofs.Common.{length, arith, subst, sym, ◌∙◌}
use Rattle.std.proofs.lemmas.Bool.{eqb-true}
use Rattle.cb_tokens.proofs.whole.token_kind.Goals as goal

pub returns-then-is_empty : goal.returns-then-is_empty
returns-then-is_empty c = no_kind_of_none c.args.bytes.now (eqb-true (length c.args.bytes.now) 0 (sym c.is_empty.ensures ∙ c.if-is_empty.true))

pub returns-in_default : goal.returns-in_default
returns-in_default c = no_kind_of_comment c.args.bytes.now c.in_default.ensures

pub returns-then-len-bytes : goal.returns-then-len-bytes
returns-then-len-bytes c = no_kind_of_more c.args.bytes.now c.in-Piece.kind c.in-Piece.len c.in-Piece.ensures.1 (omega arith)

pub returns-in-White : goal.returns-in-White
returns-in-White c =
    no_kind_of_piece c.args.bytes.now c.in-Piece.kind c.in-Piece.len c.in-Piece.ensures.1 (omega arith) (λ k e. let w = c.in-White.is in absurd (cc))

pub returns-in-Comment : goal.returns-in-Comment
returns-in-Comment c =
    no_kind_of_piece c.args.bytes.now c.in-Piece.kind c.in-Piece.len c.in-Piece.ensures.1 (omega arith) (λ k e. let w = c.in-Comment.is in absurd (cc))

pub returns-in-LineEnd : goal.returns-in-LineEnd
returns-in-LineEnd c =
    no_kind_of_piece c.args.bytes.now c.in-Piece.kind c.in-Piece.len c.in-Piece.ensures.1 (omega arith) (λ k e. let w = c.in-LineEnd.is in absurd (cc))

pub returns-in-Token : goal.returns-in-Token
returns-in-Token c =
    kind_of_whole c.args.bytes.now c.in-Token.kind c.in-Piece.len
    (subst (λ kind. IsFirst c.args.bytes.now kind c.in-Piece.len) c.in-Token.is c.in-Piece.ensures.1) c.if-len-bytes.false
