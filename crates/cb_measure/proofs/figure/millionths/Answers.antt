use Rattle.std.proofs.Common.{◌-◌, length, take, refl, arith}
use Rattle.cb_measure.specs.Figures.{sixths}
use Rattle.cb_measure.proofs.Spelled.{power, first_six}
use Rattle.cb_measure.proofs.figure.millionths.Goals as goal

pub returns-clause-value : goal.returns-clause-value
unfolding sixths
returns-clause-value c =
    let six = first_six c.args.fraction.now c.min.result c.min.ensures in
    let value = c.in_ok-number.ensures.value in
    rw (power (6 - length (take c.min.result c.args.fraction.now)) (omega arith), value, six) refl
