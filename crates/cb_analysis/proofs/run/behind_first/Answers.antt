use Rattle.std.proofs.Common.{◌∙◌, sym}
use Rattle.cb_analysis.specs.Fits.{part_fits}
use Rattle.cb_analysis.specs.inner.Left.{left_of}
use Rattle.cb_analysis.proofs.Fitting.{first_here}
use Rattle.cb_analysis.proofs.run.behind_first.Goals as goal

pub returns-in-Some : goal.returns-in-Some
returns-in-Some c =
    first_here part_fits c.args.segment.now (left_of c.places.path) (left_of c.in-Some.left) c.in-Some.ensures ∙ sym c.places.invariant
