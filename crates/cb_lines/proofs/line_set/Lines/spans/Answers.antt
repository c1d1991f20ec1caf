use Rattle.std.proofs.Common.{subst}
use Rattle.std.specs.List.Sorted.{IsStrictlyIncreasing}
use Rattle.cb_lines.proofs.SpanLists.{lines, Fits-from_maximal}
use Rattle.cb_lines.proofs.Members.{increasing_from_rising, Rising-lines}
use Rattle.cb_lines.proofs.line_set.Lines.spans.Goals as goal

pub returns-clause-rising : goal.returns-clause-rising
returns-clause-rising c =
    subst IsStrictlyIncreasing c.self.view_is
    (increasing_from_rising 0 (lines c.self.inside.spans) (Rising-lines 0 c.self.inside.spans (Fits-from_maximal c.self.inside.spans c.self.invariant)))
