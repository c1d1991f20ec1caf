use Rattle.std.proofs.Common.{List, ℕ, ap, ◌∙◌}
use Rattle.cb_lines.specs.Lines.{has_line, span_lines}
use Rattle.cb_lines.proofs.Members.{has-union_of}
use Rattle.cb_lines.proofs.Lacks.{added_last}
use Rattle.cb_lines.proofs.lacking.add_unless_held.Goals as goal

pub returns : goal.returns
returns c = λ line.
    let set : List ℕ = span_lines (record { first = c.args.first; last = c.args.stretch.last }) in
    ap (λ (ls : List ℕ). has_line ls line) c.in_ok-add_span.ensures
    ∙ (has-union_of set c.args.lines.now line
    ∙ added_last (has_line set line) (has_line c.args.lines.now line) c.args.stretch.is_held c.if-stretch.false)
