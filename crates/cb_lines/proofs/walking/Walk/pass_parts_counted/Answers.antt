use Rattle.std.proofs.Common.{◌≤◌, ℕ, sym, ap, ◌∙◌, arith}
use Rattle.cb_lines.specs.Lines.{with_line}
use Rattle.cb_lines.proofs.Counting.{row_more, drop_more_row, plain_left}
use Rattle.cb_lines.proofs.walking.Walk.pass_parts_counted.Goals as goal

pub parts-preserved : goal.parts-preserved
parts-preserved c =
    let inv = c.parts.invariant in
    let row : ℕ = c.plain_row_len-part.result in
    let fits : row ≤ c.parts.left = c.plain_row_len-part.ensures.within.1 in
    record {
      within = omega arith;
      passed = c.pass_row.ensures ∙ drop_more_row c.args.count c.parts.left row c.args.self.now c.parts.self inv.within fits inv.passed;
      counted = row_more c.args.count c.parts.left row c.args.self.now c.parts.self c.parts.lines c.args.lines.now c.add.new.self c.line.result inv.within fits inv.passed inv.counted c.in_ok-add.ensures (c.plain_row_len-part.ensures.one_line c.parts.lines ∙ ap (λ (line : ℕ). with_line line c.parts.lines) (sym c.line.ensures));
    }

pub plain_row_len-part-requires-clause-plain : goal.plain_row_len-part-requires-clause-plain
plain_row_len-part-requires-clause-plain c =
    plain_left c.args.count c.parts.left c.args.self.now c.parts.self c.parts.invariant.within c.parts.invariant.passed c.requires.plain

pub pass_row-requires-clause-plain : goal.pass_row-requires-clause-plain
pass_row-requires-clause-plain c = λ k h.
    plain_left c.args.count c.parts.left c.args.self.now c.parts.self c.parts.invariant.within c.parts.invariant.passed c.requires.plain k (omega (arith, c.plain_row_len-part.ensures.within.1))
