use Rattle.std.proofs.Common.{◌&&◌, not, List, ℕ, ap, ◌∙◌, arith}
use Rattle.std.proofs.lemmas.List.{take_all}
use Rattle.std.specs.List.{flat_map}
use Rattle.cb_lines.specs.declared.line_set.Span.{Span}
use Rattle.cb_lines.specs.Lines.{has_line, span_lines}
use Rattle.cb_lines.proofs.Adding.{none}
use Rattle.cb_lines.proofs.SpanLists.{Fits-from_maximal, ends_behind}
use Rattle.cb_lines.proofs.Lacks.{lacking_span, lacking_all}
use Rattle.cb_lines.proofs.line_set.Lines.minus.Goals as goal

pub add_lacking-requires : goal.add_lacking-requires
add_lacking-requires c = ends_behind 0 c.spans-span-items.result.now (Fits-from_maximal c.spans-span-items.result.now c.spans-span-items.ensures.maximal) c.spans.span-index none c.spans-test.true

pub spans-preserved : goal.spans-preserved
spans-preserved c = lacking_span c.spans-span-items.result.now c.spans.span-index none c.args.other.now c.spans.rest c.add_lacking.new.lines c.spans-test.true c.spans.invariant c.in_ok-add_lacking.ensures

pub returns-clause-lines : goal.returns-clause-lines
returns-clause-lines c =
    let ss : List Span = c.spans-span-items.result.now in
    lacking_all c.args.self.now c.args.other.now c.spans.rest c.spans-span-items.ensures.rising c.rises.ensures (λ line.
    c.spans.invariant line
    ∙ ap (λ (xs : List ℕ). has_line xs line && not (has_line c.args.other.now line))
    (ap (λ (xs : List Span). flat_map span_lines xs) (take_all c.spans.span-index ss (omega arith)) ∙ c.spans-span-items.ensures.lines))
