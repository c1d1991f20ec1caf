use Rattle.std.proofs.Common.{map}
use Rattle.cb_lines.specs.declared.line_set.Span.{Span}
use Rattle.cb_sets.specs.inner.Rows.{seen}
use Rattle.cb_sets.proofs.Tallied.{spans_full, span_fits, span_added}
use Rattle.cb_sets.proofs.setmap.rows_with.Goals as goal

abbrev none : Span
none = record { first = 0; last = 0 }

pub add_span-requires-clause-full : goal.add_span-requires-clause-full
add_span-requires-clause-full c = spans_full c.spans-span-items.result.now c.spans-span-items.ensures.maximal c.spans.span-index none c.spans-test.true

pub add_span-requires-clause-fits : goal.add_span-requires-clause-fits
add_span-requires-clause-fits c =
    span_fits c.args.used.now c.spans-span-items.result.now c.args.counted.now c.spans.span-index none (map seen c.args.rows.now) (map seen c.spans.new.items) c.spans-test.true c.spans-span-items.ensures.lines c.spans.invariant.rows c.requires.fits

pub spans-preserved : goal.spans-preserved
spans-preserved c = record {
  rising = c.in_ok-add_span.ensures.rising;
  rows = span_added c.args.used.now c.spans-span-items.result.now c.spans.span-index none (map seen c.args.rows.now) (map seen c.spans.new.items) (map seen c.add_span.new.rows.items) c.spans-test.true c.spans.invariant.rows c.in_ok-add_span.ensures.rows;
}
