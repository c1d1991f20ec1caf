use Rattle.std.proofs.Common.{ap, ◌∙◌, ◌++◌}
use Rattle.cb_reports.proofs.Growing.{joined_grows}
use Rattle.cb_reports.proofs.run_lines.add_listed.Goals as goal

pub loop-at-preserved : goal.loop-at-preserved
loop-at-preserved c =
    joined_grows c.args.text.now c.loop-at.text c.add_separator.new.text c.add.new.self c.args.names.now c.loop-at.at c.index-names-at.result
    c.loop-at-test.true c.index-names-at.is c.loop-at.invariant c.in_ok-add_separator.ensures
    (c.in_ok-add.ensures ∙ ap (λ n. c.add_separator.new.text ++ n) c.as_slice.ensures)
