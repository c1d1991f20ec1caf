use Rattle.std.proofs.Common.{◌≡◌, ◌≤◌, ◌++◌, ◌-◌}
use Rattle.std.specs.List.{range_with_len}
use Rattle.cb_lines.specs.Lines.{span_lines}
use Rattle.codebasin.specs.inner.NumberLines.{HasLine}
use Rattle.codebasin.specs.Texts.{numbers_text}
use Rattle.codebasin.proofs.texts.push_span.Given as goal

-- the lines from this one on complete the text
abbrev pub invariant-loop-line : goal.invariant-loop-line
invariant-loop-line l = record {
  holds : HasLine l.last.bytes l.last.start l.last.number l.last.count;
  rises : l.last.number ≤ l.line;
  text : l.text.items ++ numbers_text (range_with_len l.line (l.line-end - l.line)) ≡ l.fn.text.items ++ numbers_text (span_lines l.fn.span);
}
