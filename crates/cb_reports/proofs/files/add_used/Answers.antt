use Rattle.std.proofs.Common.{◌≡◌, ap, ◌∙◌, ◌++◌, ◌+◌, ◌-◌, [], slice_index_or, arith}
use Rattle.cb_reports.specs.Files.{used_line, lines_line}
use Rattle.cb_reports.proofs.Growing.{numbered_grows}
use Rattle.cb_reports.proofs.files.add_used.Goals as goal

pub loop-at-preserved : goal.loop-at-preserved
loop-at-preserved c =
    let names = c.args.names.now in
    let at = c.loop-at.at in
    let e : at ≡ at + 1 - 1 = omega arith in
    let lines = c.index-used-at.result in
    numbered_grows (used_line names) c.args.text.now c.loop-at.text c.add_lines.new.text c.args.used.now at lines
    c.loop-at-test.true c.index-used-at.is c.loop-at.invariant
    (c.in_ok-add_lines.ensures ∙ ap (λ n. c.loop-at.text ++ lines_line n lines) (c.name_at.ensures ∙ ap (λ k. slice_index_or names k []) e))
