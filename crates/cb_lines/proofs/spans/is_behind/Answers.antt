use Rattle.std.proofs.Common.{arith}
use Rattle.std.proofs.lemmas.Bool.{ltb-true, lt-ltb}
use Rattle.cb_lines.proofs.AtEnd.{maximal_behind, bound_behind, bound_of_last}
use Rattle.cb_lines.proofs.spans.is_behind.Goals as goal

pub returns-then-spans-count : goal.returns-then-spans-count
returns-then-spans-count c =
    let e = bound_of_last c.args.spans.now (omega arith) in (
      λ h. let more = ltb-true _ _ h in maximal_behind c.args.line c.args.spans.now c.requires (omega arith),
      λ h. let low = bound_behind c.args.line c.args.spans.now h in lt-ltb _ _ (omega arith),
    )

pub returns-else-spans-count : goal.returns-else-spans-count
returns-else-spans-count c =
    let e = bound_of_last c.args.spans.now (omega arith) in (
      λ h. let less = ltb-true _ _ h in maximal_behind c.args.line c.args.spans.now c.requires (omega arith),
      λ h. let low = bound_behind c.args.line c.args.spans.now h in lt-ltb _ _ (omega arith),
    )
