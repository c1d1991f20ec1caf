use Rattle.std.proofs.Common.{List, sym, ap, ◌∙◌, subst}
use Rattle.cb_lines.specs.declared.line_set.Span.{Span}
use Rattle.cb_lines.specs.Lines.{has_line, AreMaximal}
use Rattle.cb_lines.proofs.SpanLists.{lines}
use Rattle.cb_lines.proofs.Members.{has_at}
use Rattle.cb_lines.proofs.line_set.Lines.has.Goals as goal

pub returns : goal.returns
returns c =
    let e = c.as_slice-spans.ensures in
    has_at c.as_slice-spans.result.now c.count_before.result c.args.line c.begins_by.result (subst AreMaximal (sym e) c.self.invariant) c.count_before.ensures.before c.count_before.ensures.behind c.begins_by.ensures
    ∙ (ap (λ (ss : List Span). has_line (lines ss) c.args.line) e ∙ ap (λ ls. has_line ls c.args.line) c.self.view_is)
