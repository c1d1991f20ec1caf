use Rattle.std.proofs.Common.{◌≡◌, ℕ, ◌<◌, List, length, get_or, sym, subst, arith}
use Rattle.cb_tokens.specs.declared.class.Class.{Class}
use Rattle.cb_tokens.specs.declared.class.Class.TheVariants as classes
use Rattle.cb_tokens.specs.Forms.{is_number_rest}
use Rattle.cb_tokens.specs.inner.Classes.{class_of, BeginsIn}
use Rattle.cb_tokens.specs.Cut.{StandsFirst}
use Rattle.cb_tokens.specs.inner.Scan.{IsLongest}
use Rattle.cb_tokens.specs.declared.first.First.TheVariants as first
use Rattle.cb_tokens.specs.declared.token.PieceKind.TheVariants as kinds
use Rattle.cb_tokens.specs.declared.token.TokenKind.TheVariants as tokens
use Rattle.cb_tokens.proofs.Arms.{white_stands, name_stands, line_end_stands, single_stands, operator_stands, stray_stands}
use Rattle.cb_tokens.proofs.MoreArms.{number_stands, operator_first}
use Rattle.cb_tokens.proofs.first.first_piece.Goals as goal

begins : (k : Class) (xs : List ℕ) → 0 < length xs → get_or xs 0 0 < 256 → k ≡ class_of (get_or xs 0 0) → BeginsIn k xs
begins k xs some byte is = record { some = some; byte = byte; is = sym is }

pub punctuator_len-requires : goal.punctuator_len-requires
punctuator_len-requires c =
    operator_first c.args.bytes.now (begins classes.Operator c.args.bytes.now c.requires (omega (arith, c.type_inv.bytes 0)) c.in-Operator.ensures)

pub returns-in-White : goal.returns-in-White
returns-in-White c =
    let xs = c.args.bytes.now in
    subst (λ n. StandsFirst xs (first.Piece kinds.White n)) (sym c.white_len.ensures)
    (white_stands xs (begins classes.White xs c.requires (omega (arith, c.type_inv.bytes 0)) c.in-White.ensures))

pub returns-in-LineFeed : goal.returns-in-LineFeed
returns-in-LineFeed c =
    let xs = c.args.bytes.now in
    line_end_stands xs (begins classes.LineFeed xs c.requires (omega (arith, c.type_inv.bytes 0)) c.in-LineFeed.ensures)

pub returns-in-Name : goal.returns-in-Name
returns-in-Name c =
    let xs = c.args.bytes.now in
    subst (λ n. StandsFirst xs (first.Piece (kinds.Token tokens.Identifier) n)) (sym c.name_len.ensures)
    (name_stands xs (begins classes.Name xs c.requires (omega (arith, c.type_inv.bytes 0)) c.in-Name.ensures))

pub returns-in-Digit : goal.returns-in-Digit
returns-in-Digit c =
    let xs = c.args.bytes.now in
    number_stands xs c.number_rest.result (begins classes.Digit xs c.requires (omega (arith, c.type_inv.bytes 0)) c.in-Digit.ensures)
    (subst (λ ys. IsLongest (is_number_rest (get_or xs 0 0)) ys c.number_rest.result) c.behind.ensures c.number_rest.ensures)

pub returns-in-Single : goal.returns-in-Single
returns-in-Single c =
    let xs = c.args.bytes.now in
    single_stands xs (begins classes.Single xs c.requires (omega (arith, c.type_inv.bytes 0)) c.in-Single.ensures)

pub returns-in-Operator : goal.returns-in-Operator
returns-in-Operator c =
    let xs = c.args.bytes.now in
    operator_stands xs c.punctuator_len.result (begins classes.Operator xs c.requires (omega (arith, c.type_inv.bytes 0)) c.in-Operator.ensures) c.punctuator_len.ensures

pub returns-in-Stray : goal.returns-in-Stray
returns-in-Stray c =
    let xs = c.args.bytes.now in
    stray_stands xs (begins classes.Stray xs c.requires (omega (arith, c.type_inv.bytes 0)) c.in-Stray.ensures)
