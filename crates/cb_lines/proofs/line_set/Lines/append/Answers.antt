use Rattle.std.proofs.Common.{List, ℕ, get_or, sym, ap, ◌∙◌, arith}
use Rattle.std.proofs.lemmas.List.{take_all}
use Rattle.std.specs.List.{flat_map}
use Rattle.cb_lines.specs.declared.line_set.Span.{Span}
use Rattle.cb_lines.specs.Lines.{span_lines, union_of}
use Rattle.cb_lines.proofs.Adding.{none}
use Rattle.cb_lines.proofs.Appending.{union_of-spans, append-behind}
use Rattle.cb_lines.proofs.Lacks.{Rising-from_increasing}
use Rattle.cb_lines.proofs.line_set.Lines.append.Goals as goal

pub spans-preserved : goal.spans-preserved
spans-preserved c =
    c.in_ok-add_span.ensures
    ∙ (ap (λ (set : List ℕ). union_of (span_lines (get_or c.spans-span-items.result.now c.spans.span-index none)) set) c.spans.invariant
    ∙ sym (union_of-spans c.spans-span-items.result.now c.spans.span-index none c.args.self.now c.spans-test.true))

pub returns-clause-lines : goal.returns-clause-lines
returns-clause-lines c =
    let ss : List Span = c.spans-span-items.result.now in
    c.spans.invariant
    ∙ (ap (λ (xs : List Span). union_of (flat_map span_lines xs) c.args.self.now) (take_all c.spans.span-index ss (omega arith))
    ∙ ap (λ (xs : List ℕ). union_of xs c.args.self.now) c.spans-span-items.ensures.lines)

pub returns-clause-behind : goal.returns-clause-behind
returns-clause-behind c = λ above.
    let ss : List Span = c.spans-span-items.result.now in
    c.spans.invariant
    ∙ (ap (λ (xs : List Span). union_of (flat_map span_lines xs) c.args.self.now) (take_all c.spans.span-index ss (omega arith))
    ∙ (ap (λ (xs : List ℕ). union_of xs c.args.self.now) c.spans-span-items.ensures.lines
    ∙ append-behind c.args.self.now c.args.other.now (Rising-from_increasing c.args.other.now c.spans-span-items.ensures.rising) above))
