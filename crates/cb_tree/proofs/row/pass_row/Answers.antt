use Rattle.std.proofs.Common.{◌≡◌, ◌+◌, List, ℕ, length, get_or, ap, sym, ◌∙◌, arith, length-drop}
use Rattle.cb_lines.specs.Marks.{bytes_of, first_line, is_line_feed}
use Rattle.cb_tree.proofs.Rows.{row_few, row_ends, front_byte}
use Rattle.cb_tree.proofs.row.pass_row.Goals as goal

pub returns-then-reach-clause-goes : goal.returns-then-reach-clause-goes
returns-then-reach-clause-goes c =
    let walk = c.args.walk.now in
    let stands =
    c.row.ensures.one_line c.in_ok-reach.reach.len c.in_ok-reach.ensures.within (λ k h.
    ap is_line_feed (front_byte c.row.result.now (bytes_of walk) k c.row.ensures.front (omega (arith, c.in_ok-reach.ensures.within)) ∙ ap (λ (bs : List ℕ). get_or bs k 0) (sym c.rest-bytes.ensures))
    ∙ c.in_ok-reach.ensures.no_feed k (omega arith)) in
    let goes = c.in_ok-reach.ensures.goes walk (first_line walk) c.args.counted.now c.rest-bytes.ensures stands in
    rw (c.in_ok-count_line.ensures, c.len-before.ensures ∙ c.args.tokens.now.ok.0, c.len.ensures ∙ c.read_row.new.tokens.ok.0, c.line.ensures, c.pass_row.ensures)
    (row_ends c.args.spaced c.in_ok-reach.reach.spaced c.args.counted.now _ c.rest-bytes.result.now walk c.args.tokens.now.items c.read_row.new.tokens.items c.in_ok-reach.reach.len goes c.rest-bytes.ensures
    (c.in_ok-reach.ensures.ended c.if-reach.true))

pub returns-then-reach-clause-few : goal.returns-then-reach-clause-few
returns-then-reach-clause-few c =
    let tokens : c.len.result ≡ length c.read_row.new.tokens.items = c.len.ensures ∙ c.read_row.new.tokens.ok.0 in
    let before : c.len-before.result ≡ length c.args.tokens.now.items = c.len-before.ensures ∙ c.args.tokens.now.ok.0 in
    omega (
      arith,
      ap length c.in_ok-count_line.ensures,
      row_few c.len-before.result c.len.result c.line.result c.in_ok-reach.reach.len c.args.counted.now (omega (arith, tokens, before, c.in_ok-reach.ensures.few)),
      ap length c.pass_row.ensures,
      length-drop (c.in_ok-reach.reach.len + 1) c.args.walk.now,
      c.in_ok-reach.ensures.within,
      c.row.ensures.within,
    )

pub returns-clause-few : goal.returns-clause-few
returns-clause-few c =
    let tokens : c.len.result ≡ length c.read_row.new.tokens.items = c.len.ensures ∙ c.read_row.new.tokens.ok.0 in
    let before : c.len-before.result ≡ length c.args.tokens.now.items = c.len-before.ensures ∙ c.args.tokens.now.ok.0 in
    omega (
      arith,
      ap length c.in_ok-count_line.ensures,
      row_few c.len-before.result c.len.result c.line.result c.in_ok-reach.reach.len c.args.counted.now (omega (arith, tokens, before, c.in_ok-reach.ensures.few)),
      ap length c.pass_some.ensures,
      length-drop c.in_ok-reach.reach.len c.args.walk.now,
      c.in_ok-reach.ensures.within,
      c.row.ensures.within,
    )
