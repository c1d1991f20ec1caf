use Rattle.std.proofs.Common.{◌∙◌, Some, refl, sym, ap, arith, inr}
use Rattle.cb_analysis.specs.Analyses.{analysis}
use Rattle.cb_inputs.specs.inner.Kept.{inputs_of, known_of}
use Rattle.cb_inputs.proofs.FileEdits.{not_read, accepts, too_many}
use Rattle.cb_inputs.proofs.inputs.fresh_analysis.Goals as goal

pub returns-in-Err-clause-cause : goal.returns-in-Err-clause-cause
returns-in-Err-clause-cause c =
    let i = inputs_of c.args.analysis.now c.args.databases.now c.args.sources.now c.args.measurements.now in
    let ours = known_of c.args.analysis.now c.args.databases.now c.args.sources.now c.args.measurements.now in
    not_read i ours c.args.bytes.now c.in-Err.refused c.in-Err.ensures.cause

pub returns-then-count-most-clause-cause : goal.returns-then-count-most-clause-cause
returns-then-count-most-clause-cause c =
    let i = inputs_of c.args.analysis.now c.args.databases.now c.args.sources.now c.args.measurements.now in
    let ours = known_of c.args.analysis.now c.args.databases.now c.args.sources.now c.args.measurements.now in
    let counted = c.command_count-count.ensures (known_of (Some c.in-Ok.fresh) c.args.databases.now c.args.sources.now c.args.measurements.now) refl refl in
    inr (too_many i ours c.args.bytes.now c.are_read.ensures.known c.are_read.ensures.few c.are_read.ensures.within c.in-Ok.fresh.contents (ap analysis (sym c.in-Ok.ensures.same_bytes) ∙ c.in-Ok.ensures.read.says)
    c.command_count-count.result counted (omega (arith, c.if-count-most.true, c.most.ensures)))

pub returns-clause-few : goal.returns-clause-few
returns-clause-few c =
    let counted = c.command_count-count.ensures (known_of (Some c.in-Ok.fresh) c.args.databases.now c.args.sources.now c.args.measurements.now) refl refl in
    omega (arith, counted, c.if-count-most.false, c.most.ensures)

pub returns-clause-good : goal.returns-clause-good
returns-clause-good c =
    let i = inputs_of c.args.analysis.now c.args.databases.now c.args.sources.now c.args.measurements.now in
    let ours = known_of c.args.analysis.now c.args.databases.now c.args.sources.now c.args.measurements.now in
    let counted = c.command_count-count.ensures (known_of (Some c.in-Ok.fresh) c.args.databases.now c.args.sources.now c.args.measurements.now) refl refl in
    accepts i ours c.args.bytes.now c.are_read.ensures.known c.are_read.ensures.few c.are_read.ensures.within c.in-Ok.fresh.contents (ap analysis (sym c.in-Ok.ensures.same_bytes) ∙ c.in-Ok.ensures.read.says)
    (omega (arith, counted, c.if-count-most.false, c.most.ensures))
