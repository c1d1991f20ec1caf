use Rattle.std.proofs.Common.{◌≡◌, true, get_or, refl, sym, ◌∙◌, arith}
use Rattle.std.specs.Char.{is_ascii_digit}
use Rattle.std.proofs.lemmas.List.Folds.{list_all_more}
use Rattle.cb_words.proofs.Spelled.{digit_is, number_more, number_small, number_within}
use Rattle.cb_words.proofs.digits.number.Goals as goal

pub overflow_mul-number : goal.overflow_mul-number
overflow_mul-number c =
    omega (arith, number_small c.loop-digit.number c.loop-digit.digit-index c.loop-digit.invariant.within (omega (arith, c.loop-digit-test.true, c.requires)))

pub overflow_add-number : goal.overflow_add-number
overflow_add-number c =
    let e = c.from.ensures in
    omega (arith, number_small c.loop-digit.number c.loop-digit.digit-index c.loop-digit.invariant.within (omega (arith, c.loop-digit-test.true, c.requires)))

pub loop-digit-preserved : goal.loop-digit-preserved
loop-digit-preserved c =
    let d : is_ascii_digit (get_or c.args.digits.now c.loop-digit.digit-index 0) ≡ true = sym (c.if-not-is_ascii_digit.ensures.value) in
    let e = c.from.ensures in
    record {
      digits = list_all_more is_ascii_digit c.args.digits.now c.loop-digit.digit-index 0 c.loop-digit-test.true ∙ rw (c.loop-digit.invariant.digits, d) refl;
      value = rw c.from.ensures (number_more c.args.digits.now c.loop-digit.digit-index c.loop-digit.number c.loop-digit-test.true d c.loop-digit.invariant.value);
      within = number_within c.loop-digit.number c.from.result c.loop-digit.digit-index c.loop-digit.invariant.within (let b = digit_is (get_or c.args.digits.now c.loop-digit.digit-index 0) d in omega (arith, e, b.0, b.1, b.2));
    }
