use Rattle.std.proofs.Common.{◌<◌, ◌^◌, List, get_or, take, arith}
use Rattle.cb_lines.specs.declared.line_set.Span.{Span}
use Rattle.cb_lines.proofs.Adding.{none}
use Rattle.cb_lines.proofs.SpanLists.{bound-take, ends_behind, Fits-from_maximal, Fits-take}
use Rattle.cb_lines.proofs.Members.{length-lines_more, length-lines-le}
use Rattle.cb_lines.proofs.spans.count_lines.Goals as goal

pub overflow_sub-last : goal.overflow_sub-last
overflow_sub-last c = ends_behind 0 c.args.spans.now (Fits-from_maximal c.args.spans.now c.requires) c.loop-span.span-index none c.loop-span-test.true

pub overflow_add-count-in-loop-span : goal.overflow_add-count-in-loop-span
overflow_add-count-in-loop-span c =
    let ss : List Span = c.args.spans.now in
    let all = length-lines-le 0 (take c.loop-span.span-index ss) (Fits-take 0 c.loop-span.span-index ss (Fits-from_maximal ss c.requires)) in
    let small : (get_or ss c.loop-span.span-index none).last < 2 ^ 32 = omega arith in
    omega (arith, all)

pub loop-span-preserved : goal.loop-span-preserved
loop-span-preserved c =
    let ss : List Span = c.args.spans.now in
    let ends = ends_behind 0 ss (Fits-from_maximal ss c.requires) c.loop-span.span-index none c.loop-span-test.true in
    let small : (get_or ss c.loop-span.span-index none).last < 2 ^ 32 = omega arith in
    record {
      count = omega (arith, ends, length-lines_more ss c.loop-span.span-index none c.loop-span-test.true);
      low = omega (arith, bound-take ss c.loop-span.span-index none c.loop-span-test.true);
    }
