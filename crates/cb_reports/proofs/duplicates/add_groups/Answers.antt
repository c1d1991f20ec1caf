use Rattle.std.proofs.Common.{ap, ◌∙◌, ◌++◌, ◌+◌}
use Rattle.cb_reports.specs.Duplicates.{group_text}
use Rattle.cb_reports.proofs.Growing.{numbered_grows}
use Rattle.cb_reports.proofs.duplicates.add_groups.Goals as goal

pub loop-at-preserved : goal.loop-at-preserved
loop-at-preserved c =
    numbered_grows group_text c.args.text.now c.loop-at.text c.add_group.new.text c.args.groups.now c.loop-at.at c.index-groups-at.result
    c.loop-at-test.true c.index-groups-at.is c.loop-at.invariant
    (c.in_ok-add_group.ensures ∙ ap (λ g. c.loop-at.text ++ group_text (c.loop-at.at + 1) g) c.as_slice.ensures)
