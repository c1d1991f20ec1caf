use Rattle.std.proofs.Common.{take, drop, refl, ap, arith}
use Rattle.cb_tokens.specs.declared.token.PieceKind.TheVariants as kinds
use Rattle.cb_tree.proofs.Rows.{no_feed_more, longer, one_kept, row_token}
use Rattle.cb_tree.proofs.row.read_row.Goals as goal

pub pieces-smaller : goal.pieces-smaller
pieces-smaller c =
    let here = rw c.in-Token.is at c.next_in_row.ensures in
    omega (arith, c.skip_blanks-reach.ensures.within.0, here.1, longer (drop c.skip_blanks-reach.result.len c.args.bytes.now) (kinds.Token c.in-Token.token.kind) c.in-Token.token.len here.0)

pub pieces-preserved : goal.pieces-preserved
pieces-preserved c =
    let here = rw c.in-Token.is at c.next_in_row.ensures in
    let skip = c.skip_blanks-reach.ensures in
    let some = longer (drop c.skip_blanks-reach.result.len c.args.bytes.now) (kinds.Token c.in-Token.token.kind) c.in-Token.token.len here.0 in
    record {
      within = omega (arith, here.1);
      open_still = refl;
      no_feed = no_feed_more c.pieces_end_with_lines.ensures.token c.in-Token.token.kind c.args.bytes.now c.skip_blanks-reach.result.len c.in-Token.token.len here.0
          (skip.no_feed c.pieces.invariant.no_feed);
      few = omega (arith, one_kept _ _ _ c.in_ok-keep_token-in-Token.ensures, some, c.pieces.invariant.few, skip.within.0);
      goes = rw c.in_ok-keep_token-in-Token.ensures
          (row_token c.one_line.ensures c.args.spaced c.skip_blanks-reach.result.spaced c.args.bytes.now _ c.pieces.tokens.items c.skip_blanks-reach.result.len c.in-Token.token.len
          c.in-Token.token.kind _ (skip.goes c.args.spaced _ c.pieces.tokens.items c.pieces.invariant.goes) here.0 (ap (take c.in-Token.token.len) c.split_at.ensures.back));
    }
