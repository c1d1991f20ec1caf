use Rattle.cb_reports.specs.Measurements.{step_line}
use Rattle.cb_reports.proofs.Growing.{numbered_grows}
use Rattle.cb_reports.proofs.run_lines.add_cascade.Goals as goal

pub loop-at-preserved : goal.loop-at-preserved
loop-at-preserved c =
    numbered_grows (step_line c.args.problem.now c.args.application.now) c.args.text.now c.loop-at.text c.add_step.new.text c.as_slice-steps.result.now c.loop-at.at c.index-steps-at.result
    c.loop-at-test.true c.index-steps-at.is c.loop-at.invariant c.in_ok-add_step.ensures
