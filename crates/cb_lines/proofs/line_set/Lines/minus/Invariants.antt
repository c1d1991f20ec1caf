use Rattle.std.proofs.Common.{◌≡◌, ℕ, ◌&&◌, not, take}
use Rattle.std.specs.List.{flat_map}
use Rattle.cb_lines.specs.Lines.{has_line, span_lines}
use Rattle.cb_lines.proofs.line_set.Lines.minus.Given as goal

abbrev pub invariant-spans : goal.invariant-spans
invariant-spans l =
    (line : ℕ) → has_line l.rest line ≡ (has_line (flat_map span_lines (take l.span-index l.span-items)) line && not (has_line l.other line))
