use Rattle.std.proofs.Common.{◌≡◌, ◌<◌, ℕ, false, List, drop, get_or, subst, arith}
use Rattle.cb_lines.specs.Marks.{is_line_feed}
use Rattle.cb_tokens.specs.Cut.{StandsFirst}
use Rattle.cb_tokens.specs.declared.first.First.TheVariants as first
use Rattle.cb_tokens.specs.declared.token.PieceKind.TheVariants as kinds
use Rattle.cb_tree.proofs.Rows.{row_white, no_feed_behind}
use Rattle.cb_tree.proofs.row.skip_blanks.Goals as goal

pub returns-clause-goes : goal.returns-clause-goes
returns-clause-goes c = λ spaced before after h.
    let white = c.white_front-white.result in
    let some : 0 < white = omega (arith, c.if-white-eq0.false) in
    let stands : StandsFirst (drop c.args.reach.len c.args.bytes.now) (first.Piece kinds.White white) =
    subst (λ bytes. StandsFirst bytes (first.Piece kinds.White white)) c.split_at.ensures.back (c.white_front-white.ensures.piece some) in
    row_white spaced c.args.reach.spaced c.args.bytes.now before after c.args.reach.len white h stands

pub returns-clause-no_feed : goal.returns-clause-no_feed
returns-clause-no_feed c = λ before.
    no_feed_behind c.args.bytes.now c.args.reach.len c.white_front-white.result before
    (subst (λ (bytes : List ℕ). (k : ℕ) → k < c.white_front-white.result → is_line_feed (get_or bytes k 0) ≡ false) c.split_at.ensures.back c.white_front-white.ensures.no_feed)
