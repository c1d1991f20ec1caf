use Rattle.std.proofs.Common.{ℕ, List, ◌||◌, ap, ◌∙◌}
use Rattle.cb_lines.specs.Lines.{has_line}
use Rattle.cb_lines.proofs.SpanLists.{lines}
use Rattle.cb_lines.proofs.Members.{has-union_of}
use Rattle.cb_lines.proofs.line_set.Lines.union.Goals as goal

pub returns-clause-members : goal.returns-clause-members
returns-clause-members c = λ line.
    let left = ap lines c.as_slice.ensures ∙ c.self.view_is in
    let right = ap lines c.as_slice-2.ensures ∙ c.other.view_is in
    ap (λ (ls : List ℕ). has_line ls line) c.in_ok-spans.ensures.numbers
    ∙ (has-union_of (lines c.as_slice.result.now) (lines c.as_slice-2.result.now) line
    ∙ (ap (λ (ls : List ℕ). has_line ls line || has_line (lines c.as_slice-2.result.now) line) left
    ∙ ap (λ (ls : List ℕ). has_line c.args.self.now line || has_line ls line) right))
