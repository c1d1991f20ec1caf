use Rattle.std.proofs.Common.{ap, inl, inr, refl}
use Rattle.std.specs.Prelude.{Err}
use Rattle.cb_pass.proofs.answer.truth.Goals as goal

pub returns-then-is_untouched : goal.returns-then-is_untouched
returns-then-is_untouched c =
    inl (c.args.tokens.now, c.is_untouched.ensures.replacement c.if-is_untouched.true, (c.value.result, c.value.ensures, c.holds_or_not.ensures))

pub returns-in-Err-TooLong : goal.returns-in-Err-TooLong
returns-in-Err-TooLong c = inr (c.in-Err-TooLong.ensures.long (ap Err c.in-Err-TooLong.field-0-is), refl)
