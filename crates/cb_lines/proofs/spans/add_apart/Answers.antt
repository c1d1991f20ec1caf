use Rattle.std.proofs.Common.{◌≤◌, List, ap, ◌∙◌, subst}
use Rattle.cb_lines.specs.declared.line_set.Span.{Span}
use Rattle.cb_lines.proofs.SpanLists.{lines, bound}
use Rattle.cb_lines.proofs.AtEnd.{added_behind, bound_behind}
use Rattle.cb_lines.proofs.spans.add_apart.Goals as goal

pub returns-then-is_behind-clause-numbers : goal.returns-then-is_behind-clause-numbers
returns-then-is_behind-clause-numbers c =
    let ss : List Span = c.args.spans.now in
    let low : bound 0 ss ≤ c.args.line =
    subst (λ (xs : List Span). bound 0 xs ≤ c.args.line) c.as_slice.ensures (bound_behind c.args.line c.as_slice.result.now (c.is_behind.ensures.0 c.if-is_behind.true)) in
    ap lines c.in_ok-push.ensures.ok ∙ (added_behind c.args.line ss c.requires low).numbers
