use Rattle.std.proofs.Common.{ap, sym, ◌∙◌, inl, inr, refl}
use Rattle.std.specs.Prelude.{Err}
use Rattle.cb_pass.specs.Answers.{named_or_not}
use Rattle.cb_pass.proofs.answer.header_replaced.Goals as goal

pub returns-then-is_untouched : goal.returns-then-is_untouched
returns-then-is_untouched c =
    inl (c.args.tokens.now, c.is_untouched.ensures.replacement c.if-is_untouched.true, c.named_or_not.ensures ∙ ap named_or_not c.in_ok-header.ensures)

pub returns-in-Err-TooLong : goal.returns-in-Err-TooLong
returns-in-Err-TooLong c = inr (c.in-Err-TooLong.ensures.long (ap Err c.in-Err-TooLong.field-0-is), refl)
