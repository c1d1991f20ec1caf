use Rattle.std.proofs.Common.{refl, arith}
use Rattle.cb_cond.specs.Integers.{amount}
use Rattle.cb_cond.proofs.Leading.{number-more, counted-more, counted-stops}
use Rattle.cb_cond.proofs.integers.leading_number.Goals as goal

pub digits-init : goal.digits-init
unfolding amount
digits-init c = record { counted = omega arith; value = refl; within = omega arith }

pub returns-then-digit-base-clause-len : goal.returns-then-digit-base-clause-len
returns-then-digit-base-clause-len c =
    counted-stops c.args.base c.args.text.now c.digits.len c.value_of_digit-digit.result _ c.digits-test.true c.value_of_digit-digit.ensures.value c.if-digit-base.true c.digits.invariant.counted

pub digits-preserved : goal.digits-preserved
digits-preserved c = record {
  counted = counted-more c.args.base c.args.text.now c.digits.len c.value_of_digit-digit.result _ c.digits-test.true c.value_of_digit-digit.ensures.value (omega (arith, c.if-digit-base.false)) c.digits.invariant.counted;
  value =
      number-more c.args.base c.args.text.now c.digits.len c.value_of_digit-digit.result c.digits.sum c.in_ok-sum.sum c.requires c.digits-test.true c.value_of_digit-digit.ensures.value (omega (arith, c.if-digit-base.false)) c.digits.invariant.value
      (omega (arith, c.in_ok-sum.ensures, c.in_ok-checked_mul.ensures));
  within = omega (arith, c.digits-test.true);
}
