use Rattle.std.proofs.Common.{◌==◌, not, length, ap, sym, refl, ◌∙◌, arith}
use Rattle.std.proofs.lemmas.Bool.{eqb-true}
use Rattle.cb_tokens.specs.declared.token.PieceKind.TheVariants as kinds
use Rattle.cb_tokens.proofs.Reading.{read_token, read_space, read_as, read_feed, read_end, not_longer, shorter}
use Rattle.cb_tokens.proofs.Cutting.{stands_as, none_left}
use Rattle.cb_tokens.proofs.lexing.read_line.Goals as goal

pub pieces-preserved-in-Piece-Token-default : goal.pieces-preserved-in-Piece-Token-default
pieces-preserved-in-Piece-Token-default c =
    let a = c.in-Piece-Token-default in
    let h = stands_as c.rest-in-pieces.result.now c.pieces.walk c.first_piece.result (kinds.Token a.kind) a.len c.first_piece.ensures c.rest-in-pieces.ensures (cc) in
    let e = c.in_ok-take_token-in-Piece-Token-default.ensures in
    read_as c.args.walk.now _ _ _ _ _ _ _ _ (read_token c.args.walk.now c.pieces.walk c.pieces.tokens.items c.pieces.counted c.pieces.spaced a.kind a.len c.pieces.invariant h) e.passed e.kept e.counted refl

pub pieces-smaller-in-Piece-Token-default : goal.pieces-smaller-in-Piece-Token-default
pieces-smaller-in-Piece-Token-default c =
    let a = c.in-Piece-Token-default in
    let h = stands_as c.rest-in-pieces.result.now c.pieces.walk c.first_piece.result (kinds.Token a.kind) a.len c.first_piece.ensures c.rest-in-pieces.ensures (cc) in
    omega (arith, ap length c.in_ok-take_token-in-Piece-Token-default.ensures.passed, shorter c.pieces.walk (kinds.Token a.kind) a.len h)

pub pieces-preserved-in-Piece-White-default : goal.pieces-preserved-in-Piece-White-default
pieces-preserved-in-Piece-White-default c =
    let a = c.in-Piece-White-default in
    let h = stands_as c.rest-in-pieces.result.now c.pieces.walk c.first_piece.result kinds.White a.len c.first_piece.ensures c.rest-in-pieces.ensures (cc) in
    read_as c.args.walk.now _ _ _ _ _ _ _ _ (read_space c.args.walk.now c.pieces.walk c.pieces.tokens.items c.pieces.counted c.pieces.spaced kinds.White a.len c.pieces.invariant h refl refl refl)
    c.pass-in-Piece-White-default.ensures refl refl (ap not (c.is_empty-spaced.ensures ∙ ap (λ n. n == 0) c.pieces.tokens.ok.0))

pub pieces-smaller-in-Piece-White-default : goal.pieces-smaller-in-Piece-White-default
pieces-smaller-in-Piece-White-default c =
    let a = c.in-Piece-White-default in
    let h = stands_as c.rest-in-pieces.result.now c.pieces.walk c.first_piece.result kinds.White a.len c.first_piece.ensures c.rest-in-pieces.ensures (cc) in
    omega (arith, ap length c.pass-in-Piece-White-default.ensures, shorter c.pieces.walk kinds.White a.len h)

pub pieces-preserved : goal.pieces-preserved
pieces-preserved c =
    let a = c.in-Piece-Comment-default in
    let h = stands_as c.rest-in-pieces.result.now c.pieces.walk c.first_piece.result kinds.Comment a.len c.first_piece.ensures c.rest-in-pieces.ensures (cc) in
    read_as c.args.walk.now _ _ _ _ _ _ _ _ (read_space c.args.walk.now c.pieces.walk c.pieces.tokens.items c.pieces.counted c.pieces.spaced kinds.Comment a.len c.pieces.invariant h refl refl refl)
    c.pass-in-Piece-Comment-default.ensures refl refl (ap not (c.is_empty-spaced-in-Piece-Comment-default.ensures ∙ ap (λ n. n == 0) c.pieces.tokens.ok.0))

pub pieces-smaller : goal.pieces-smaller
pieces-smaller c =
    let a = c.in-Piece-Comment-default in
    let h = stands_as c.rest-in-pieces.result.now c.pieces.walk c.first_piece.result kinds.Comment a.len c.first_piece.ensures c.rest-in-pieces.ensures (cc) in
    omega (arith, ap length c.pass-in-Piece-Comment-default.ensures, shorter c.pieces.walk kinds.Comment a.len h)

pub returns-in-Piece-LineEnd-default-clause-line : goal.returns-in-Piece-LineEnd-default-clause-line
returns-in-Piece-LineEnd-default-clause-line c =
    let a = c.in-Piece-LineEnd-default in
    let h = stands_as c.rest-in-pieces.result.now c.pieces.walk c.first_piece.result kinds.LineEnd a.len c.first_piece.ensures c.rest-in-pieces.ensures (cc) in
    rw c.pass.ensures (read_feed c.args.walk.now c.pieces.walk c.pieces.tokens.items c.pieces.counted c.pieces.spaced a.len c.pieces.invariant h)

pub returns-in-Piece-LineEnd-default-clause-shorter : goal.returns-in-Piece-LineEnd-default-clause-shorter
returns-in-Piece-LineEnd-default-clause-shorter c =
    let a = c.in-Piece-LineEnd-default in
    let h = stands_as c.rest-in-pieces.result.now c.pieces.walk c.first_piece.result kinds.LineEnd a.len c.first_piece.ensures c.rest-in-pieces.ensures (cc) in
    omega (arith, ap length c.pass.ensures, shorter c.pieces.walk kinds.LineEnd a.len h, not_longer c.args.walk.now c.pieces.walk c.pieces.tokens.items c.pieces.counted c.pieces.spaced c.pieces.invariant)

pub returns-clause-line : goal.returns-clause-line
returns-clause-line c =
    read_end c.args.walk.now c.pieces.walk c.pieces.tokens.items c.pieces.counted c.pieces.spaced c.pieces.invariant
    (none_left c.pieces.walk c.rest.result.now c.rest.ensures (eqb-true (length c.rest.result.now) 0 (sym c.is_empty.ensures ∙ c.pieces-test.false))) c.requires
