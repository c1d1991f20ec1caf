use Rattle.std.proofs.Common.{◌≡◌, ◌++◌, drop}
use Rattle.std.specs.List.{flat_map}
use Rattle.cb_lines.specs.Lines.{span_lines}
use Rattle.codebasin.specs.Texts.{numbers_text}
use Rattle.codebasin.proofs.texts.push_numbers.Given as goal

-- the spans from this one on complete the text
abbrev pub invariant-loop-span : goal.invariant-loop-span
invariant-loop-span l =
    l.text.items ++ numbers_text (flat_map span_lines (drop l.span-index l.span-items)) ≡ l.fn.text.items ++ numbers_text l.lines
