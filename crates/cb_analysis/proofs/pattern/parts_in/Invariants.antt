use Rattle.std.proofs.Common.{◌≡◌, ◌++◌, not, true, length}
use Rattle.std.specs.List.{list_all}
use Rattle.cb_analysis.specs.Fits.{is_empty}
use Rattle.cb_analysis.specs.Patterns.{parts_of}
use Rattle.cb_analysis.specs.inner.Left.{left_of}
use Rattle.cb_analysis.proofs.pattern.parts_in.Given as goal

abbrev pub invariant-parts : goal.invariant-parts
invariant-parts l =
    (l.parts ++ left_of l.left ≡ parts_of l.text) × (list_all (λ part. not (is_empty part)) l.parts ≡ true)

abbrev pub decreases-parts : goal.decreases-parts
decreases-parts l = length (left_of l.left)
