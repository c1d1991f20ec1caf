use Rattle.std.proofs.Common.{ne_eqb}
use Rattle.cb_tokens.proofs.MarksLeft.{none_next, some_next, quote_plain, quote_escape, quote_closed, quote_behind, quote_feed, quote_slash, quote_slash_feed, quote_done}
use Rattle.cb_tokens.proofs.left.quote_left.Goals as goal

pub returns-then-is_none : goal.returns-then-is_none
returns-then-is_none c =
    quote_closed c.args.quote c.args.marker.now c.marks.marker c.in-Some.mark c.next.new.self c.marks.invariant c.in-Some.ensures.mark c.if-mark-quote.true
    (none_next c.next-then-mark-quote.result c.next.new.self c.next-then-mark-quote.new.self c.next-then-mark-quote.ensures.mark c.if-is_none.ensures)

pub returns-else-is_none : goal.returns-else-is_none
returns-else-is_none c =
    let more = some_next c.next-then-mark-quote.result c.next.new.self c.next-then-mark-quote.new.self c.next-then-mark-quote.ensures.mark c.if-is_none.ensures in
    quote_behind c.args.quote c.args.marker.now c.marks.marker c.in-Some.mark c.next.new.self more.0 c.next-then-mark-quote.new.self c.marks.invariant c.in-Some.ensures.mark c.if-mark-quote.true more.1

pub returns-then-is_line_feed : goal.returns-then-is_line_feed
returns-then-is_line_feed c =
    quote_feed c.args.quote c.args.marker.now c.marks.marker c.in-Some.mark c.next.new.self c.requires c.marks.invariant c.in-Some.ensures.mark (cc)

pub marks-preserved-then-mark-ne92 : goal.marks-preserved-then-mark-ne92
marks-preserved-then-mark-ne92 c =
    quote_plain c.args.quote c.args.marker.now c.marks.marker c.in-Some.mark c.next.new.self c.requires c.marks.invariant c.in-Some.ensures.mark (ne_eqb _ _ c.if-mark-quote.false) (cc) (ne_eqb _ _ c.if-mark-ne92.true)

pub returns-in_default-next : goal.returns-in_default-next
returns-in_default-next c =
    quote_slash c.args.quote c.args.marker.now c.marks.marker c.in-Some.mark c.next.new.self c.requires c.marks.invariant c.in-Some.ensures.mark c.if-mark-ne92.false c.in_default-next.ensures.mark

pub returns-then-is_line_feed-2 : goal.returns-then-is_line_feed-2
returns-then-is_line_feed-2 c =
    quote_slash_feed c.args.quote c.args.marker.now c.marks.marker c.in-Some.mark c.next.new.self c.in-Some-next.escaped c.next-in-Some.new.self c.requires c.marks.invariant c.in-Some.ensures.mark c.if-mark-ne92.false c.in-Some-next.ensures.mark (cc)

pub marks-preserved : goal.marks-preserved
marks-preserved c =
    quote_escape c.args.quote c.args.marker.now c.marks.marker c.in-Some.mark c.next.new.self c.in-Some-next.escaped c.next-in-Some.new.self c.requires c.marks.invariant c.in-Some.ensures.mark c.if-mark-ne92.false c.in-Some-next.ensures.mark (cc)

pub returns : goal.returns
returns c = quote_done c.args.quote c.args.marker.now c.marks.marker c.marks.invariant c.in_default.ensures.mark
