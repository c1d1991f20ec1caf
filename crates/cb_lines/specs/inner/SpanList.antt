-- How a set of lines keeps its spans. No public clause names these words.
use Rattle.std.specs.Prelude.{◌≡◌, List, [], length, box_value}
use Rattle.cb_lines.specs.declared.line_set.Span.{Span}
use Rattle.cb_lines.specs.declared.span_list.Stored.{Stored}
use Rattle.cb_lines.specs.declared.span_list.Stored.TheVariants.{Empty, One, Many}

-- the spans in order
abbrev pub spans_of : Stored → List Span
spans_of Empty = []
spans_of (One span) = span
spans_of (Many boxed) = (box_value boxed).items

-- one span is one
abbrev pub AreStored : Stored → Type 0
AreStored Empty = Unit {0}
AreStored (One span) = length span ≡ 1
AreStored (Many boxed) = Unit {0}
