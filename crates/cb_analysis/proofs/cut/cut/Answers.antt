use Rattle.std.proofs.Common.{◌==◌, ◌∙◌, ap, sym, arith}
use Rattle.std.proofs.Math.Seq.{take-length}
use Rattle.cb_analysis.specs.inner.Fronts.{has_no}
use Rattle.cb_analysis.proofs.Splitting.{lacks-take}
use Rattle.cb_analysis.proofs.cut.cut.Goals as goal

pub returns-in-Some-clause-front : goal.returns-in-Some-clause-front
returns-in-Some-clause-front c =
    let h = c.in-Some.ensures in
    lacks-take c.args.byte c.in-Some.at c.args.text.now (omega arith) h.0.before

pub returns-in-None-clause-front : goal.returns-in-None-clause-front
returns-in-None-clause-front c =
    ap (has_no (λ b. b == c.args.byte)) (sym (take-length c.args.text.now)) ∙ lacks-take c.args.byte _ c.args.text.now (omega arith) c.in-None.ensures
