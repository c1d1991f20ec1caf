use Rattle.std.proofs.Common.{length, arith}
use Rattle.std.proofs.Math.Nat.{pow-le-pow_right}
use Rattle.std.proofs.lemmas.Option.{IfSome_then}
use Rattle.cb_measure.proofs.figure.counted.Goals as goal

pub returns-clause-within : goal.returns-clause-within
returns-clause-within c =
    IfSome_then c.number.result c.number.ensures.within (λ n h. omega (arith, h, pow-le-pow_right {n = 10} (omega arith) {i = length c.args.digits.now} {j = c.args.most} (omega arith)))
