use Rattle.std.proofs.Common.{ℕ, sym, subst, arith}
use Rattle.cb_tokens.specs.Cut.{StandsFirst}
use Rattle.cb_tokens.specs.Forms.{is_white}
use Rattle.cb_tokens.specs.declared.first.First.TheVariants as first
use Rattle.cb_tokens.specs.declared.token.PieceKind.TheVariants as kinds
use Rattle.cb_tokens.proofs.Prefixes.{prefix_within}
use Rattle.cb_tokens.proofs.Stretches.{white_piece, white_no_feed}
use Rattle.cb_tokens.proofs.plain.white_front.Goals as goal

pub returns-clause-within : goal.returns-clause-within
returns-clause-within c = omega (arith, c.white_len.ensures, prefix_within is_white c.args.bytes.now)

pub returns-clause-piece : goal.returns-clause-piece
returns-clause-piece c = λ some.
    let xs = c.args.bytes.now in
    subst (λ (n : ℕ). StandsFirst xs (first.Piece kinds.White n)) (sym c.white_len.ensures)
    (white_piece xs (omega (arith, c.type_inv.bytes 0)) (omega (arith, c.white_len.ensures)))

pub returns-clause-no_feed : goal.returns-clause-no_feed
returns-clause-no_feed c = λ k lt. white_no_feed c.args.bytes.now k (omega (arith, c.white_len.ensures))
