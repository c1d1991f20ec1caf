use Rattle.std.proofs.Common.{List, [], sym, subst}
use Rattle.cb_lines.specs.declared.line_set.Span.{Span}
use Rattle.cb_lines.proofs.Joining.{Joins}
use Rattle.cb_lines.proofs.Merged.{Merges, merges_none, merges_more, merges_all}
use Rattle.cb_lines.proofs.merging.merged.Goals as goal

pub spans-init : goal.spans-init
spans-init c =
    subst (λ (ss : List Span). Merges c.args.left.now c.args.right.now ss c.args.left.now c.args.right.now) (sym c.new-spans.ensures) (merges_none c.args.left.now c.args.right.now c.requires.left c.requires.right)

pub spans-preserved : goal.spans-preserved
spans-preserved c =
    let joins : Joins c.in-Some.span c.spans.spans c.join.new.spans = record {
      maximal = c.in_ok-join.ensures.maximal;
      rising = c.in_ok-join.ensures.rising;
      members = c.in_ok-join.ensures.members;
    } in
    merges_more c.args.left.now c.args.right.now c.spans.spans c.spans.pair.left.now c.spans.pair.right.now c.next.new.self.left.now c.next.new.self.right.now c.join.new.spans c.in-Some.span c.spans.invariant c.in-Some.ensures joins

pub returns-clause-numbers : goal.returns-clause-numbers
returns-clause-numbers c =
    let left : List Span = c.args.left.now in
    let right : List Span = c.args.right.now in
    let ended = c.in_default.ensures in
    merges_all left right c.spans.spans c.requires.left c.requires.right
    (subst (λ (rest : List Span). Merges left right c.spans.spans [] rest) ended.1
    (subst (λ (rest : List Span). Merges left right c.spans.spans rest c.spans.pair.right.now) ended.0 c.spans.invariant))
