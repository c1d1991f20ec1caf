use Rattle.std.proofs.Common.{◌+◌, ◌-◌, ◌++◌, ap, ◌∙◌, arith}
use Rattle.std.specs.List.{range_with_len}
use Rattle.codebasin.specs.Texts.{numbers_text}
use Rattle.codebasin.proofs.NumberTexts.{numbers_text_more}
use Rattle.codebasin.proofs.texts.push_span.Goals as goal

pub loop-line-preserved : goal.loop-line-preserved
loop-line-preserved c =
    let line = c.loop-line.line in
    let end = c.from-line-end.result + 1 in
    record {
      holds = c.go_on.ensures.holds;
      rises = omega arith;
      text =
          ap (λ text. text ++ numbers_text (range_with_len (line + 1) (end - (line + 1)))) c.in_ok-add_to.ensures
          ∙ (numbers_text_more c.loop-line.text.items line end c.loop-line-test.true ∙ c.loop-line.invariant.text);
    }
