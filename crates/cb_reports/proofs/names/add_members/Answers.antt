use Rattle.std.proofs.Common.{ap, ◌∙◌, ◌++◌}
use Rattle.cb_reports.specs.Words.{platform_name}
use Rattle.cb_reports.proofs.Growing.{listed_grows}
use Rattle.cb_reports.proofs.names.add_members.Goals as goal

pub loop-at-preserved : goal.loop-at-preserved
loop-at-preserved c =
    listed_grows (platform_name c.args.names.now) c.args.text.now c.loop-at.text c.add_separator.new.text c.add.new.self c.args.members.now c.loop-at.at
    c.loop-at-test.true c.loop-at.invariant c.in_ok-add_separator.ensures (c.in_ok-add.ensures ∙ ap (λ n. c.add_separator.new.text ++ n) c.platform_name.ensures)
