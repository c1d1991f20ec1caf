use Rattle.cb_analysis.proofs.Splitting.{split_some}
use Rattle.cb_analysis.proofs.parts.Parts.is_empty.Goals as goal

pub returns-in-Some : goal.returns-in-Some
returns-in-Some c = rw c.in-Some.is (split_some c.in-Some.field-0.now)
