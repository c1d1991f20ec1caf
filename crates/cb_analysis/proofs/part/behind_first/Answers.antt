use Rattle.std.proofs.Common.{◌∙◌, sym}
use Rattle.cb_analysis.specs.Fits.{is_like}
use Rattle.cb_analysis.proofs.Fitting.{first_here}
use Rattle.cb_analysis.proofs.part.behind_first.Goals as goal

pub returns-in-Some : goal.returns-in-Some
returns-in-Some c =
    first_here is_like c.args.segment.now c.places.text.now c.in-Some.left.now c.in-Some.ensures ∙ sym c.places.invariant
