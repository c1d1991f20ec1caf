use Rattle.std.proofs.Common.{rules, length, ◌-◌, ltb, ltb-true, ltb-false, arith}
use Rattle.std.proofs.lemmas.List.Sorted.{IsPartitionPoint-from_clause, IsPartitionedBy-ltb}
use Rattle.cb_lines.specs.declared.line_set.Span.{Span}
use Rattle.cb_lines.proofs.SpanLists.{all_before, all_before_first, lasts_rise}
use Rattle.cb_lines.proofs.spans.count_before.Goals as goal

abbrev none : Span
none = record { first = 0; last = 0 }

pub returns-then-spans-count-clause-before : goal.returns-then-spans-count-clause-before
returns-then-spans-count-clause-before c =
    λ k d h. all_before c.args.spans.now c.requires c.args.line (length c.args.spans.now - 1) none (omega arith) c.if-spans-count.true k d (omega arith)

pub returns-then-spans-count-2-clause-before : goal.returns-then-spans-count-2-clause-before
returns-then-spans-count-2-clause-before c =
    λ k d h. all_before_first c.args.spans.now c.requires c.args.line (length c.args.spans.now - 1) none (omega arith) c.if-spans-count-2.true k d h

pub returns-clause-before : goal.returns-clause-before
returns-clause-before c =
    let parted = IsPartitionedBy-ltb (λ (s : Span). s.last) c.args.spans.now c.args.line (lasts_rise c.args.spans.now c.requires) in
    let point = IsPartitionPoint-from_clause (λ (s : Span). ltb s.last c.args.line) _ _ c.partition_point.ensures.partitioned parted (λ a r q k. search rules) in
    λ k d h. ltb-true _ _ (point.0 k d (omega arith) h)

pub returns-clause-behind : goal.returns-clause-behind
returns-clause-behind c =
    let parted = IsPartitionedBy-ltb (λ (s : Span). s.last) c.args.spans.now c.args.line (lasts_rise c.args.spans.now c.requires) in
    let point = IsPartitionPoint-from_clause (λ (s : Span). ltb s.last c.args.line) _ _ c.partition_point.ensures.partitioned parted (λ a r q k. search rules) in
    λ k d h l. ltb-false _ _ (point.1 k d h l)
