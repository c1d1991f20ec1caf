use Rattle.cb_reports.specs.Clustering.{merge_line}
use Rattle.cb_reports.proofs.Growing.{numbered_grows}
use Rattle.cb_reports.proofs.clustering.add_merges.Goals as goal

pub loop-at-preserved : goal.loop-at-preserved
loop-at-preserved c =
    numbered_grows (merge_line c.args.names.now) c.args.text.now c.loop-at.text c.add_merge.new.text c.args.merges.now c.loop-at.at c.index-merges-at.result
    c.loop-at-test.true c.index-merges-at.is c.loop-at.invariant c.in_ok-add_merge.ensures
