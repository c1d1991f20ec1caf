use Rattle.std.proofs.Common.{◌≤◌, ℕ, sym, ap, ◌∙◌, arith}
use Rattle.cb_lines.specs.Lines.{with_line}
use Rattle.cb_lines.proofs.Counting.{row_more, drop_more_row}
use Rattle.cb_lines.proofs.walking.Walk.pass_counted.Goals as goal

pub rows-preserved : goal.rows-preserved
rows-preserved c =
    let inv = c.rows.invariant in
    let row : ℕ = c.row_len-row.result in
    let fits : row ≤ c.rows.left = c.row_len-row.ensures.within.1 in
    record {
      within = omega arith;
      passed = c.pass_row.ensures ∙ drop_more_row c.args.count c.rows.left row c.args.self.now c.rows.self inv.within fits inv.passed;
      counted = row_more c.args.count c.rows.left row c.args.self.now c.rows.self c.rows.lines c.args.lines.now c.add.new.self c.line.result inv.within fits inv.passed inv.counted c.in_ok-add.ensures (c.row_len-row.ensures.one_line c.rows.lines ∙ ap (λ (line : ℕ). with_line line c.rows.lines) (sym c.line.ensures));
    }
