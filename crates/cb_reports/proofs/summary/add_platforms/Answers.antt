use Rattle.cb_reports.specs.Summary.{platform_line}
use Rattle.cb_reports.proofs.Growing.{numbered_grows}
use Rattle.cb_reports.proofs.summary.add_platforms.Goals as goal

pub loop-at-preserved : goal.loop-at-preserved
loop-at-preserved c =
    numbered_grows platform_line c.args.text.now c.loop-at.text c.add_platform.new.text c.args.names.now c.loop-at.at c.index-names-at.result
    c.loop-at-test.true c.index-names-at.is c.loop-at.invariant c.in_ok-add_platform.ensures
