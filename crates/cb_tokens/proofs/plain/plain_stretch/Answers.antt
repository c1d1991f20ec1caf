use Rattle.std.proofs.Common.{ℕ, List, sym, refl, inl, inr, arith}
use Rattle.cb_tokens.proofs.Stretches.{plain_none, plain_break, cuts_plain, quiet_no_feed}
use Rattle.cb_tokens.proofs.QuietEnds.{quiet_goes, quiet_stops}
use Rattle.cb_tokens.proofs.plain.plain_stretch.Goals as goal

pub returns-then-end-eq0-clause-no_feed : goal.returns-then-end-eq0-clause-no_feed
returns-then-end-eq0-clause-no_feed c = quiet_no_feed c.args.bytes.now 0 c.quiet_end.result (λ k lt. absurd (omega arith)) c.quiet_end.ensures.quiet

pub runs-init : goal.runs-init
runs-init c = record { inside = omega (arith, c.if-end-eq0.false); plain = plain_none c.args.bytes.now; goes = λ n lt q. inl refl; no_feed = λ k lt. absurd (omega arith) }

pub runs-preserved : goal.runs-preserved
runs-preserved c =
    let bs : List ℕ = c.args.bytes.now in
    let feeds = quiet_no_feed bs c.runs.at c.quiet_end-seen.result c.runs.invariant.no_feed c.quiet_end-seen.ensures.quiet in
    let broken = plain_break bs c.runs.at c.last_break-len.result c.last_break-len.ensures.within.0 c.last_break-len.ensures.stops c.runs.invariant.plain in
    record {
      inside = c.tokens_over-next.ensures.within.1;
      plain = c.tokens_over-next.ensures.plain broken;
      goes = λ n lt q. inr (quiet_goes c.args.bytes.now c.args.end c.runs.at c.quiet_end-seen.result c.tokens_over-next.result n q lt (c.runs.invariant.goes n lt q) c.quiet_end-seen.ensures.loud (omega arith) (omega arith));
      no_feed = c.tokens_over-next.ensures.no_feed (λ k lt. feeds k (omega (arith, c.last_break-len.ensures.within.1)));
    }

pub returns-then-next-seen-clause-no_feed : goal.returns-then-next-seen-clause-no_feed
returns-then-next-seen-clause-no_feed c = quiet_no_feed c.args.bytes.now c.runs.at c.quiet_end-seen.result c.runs.invariant.no_feed c.quiet_end-seen.ensures.quiet

pub returns-then-next-seen-clause-cut : goal.returns-then-next-seen-clause-cut
returns-then-next-seen-clause-cut c = λ ms e some.
    let broken = plain_break c.args.bytes.now c.runs.at c.last_break-len.result c.last_break-len.ensures.within.0 c.last_break-len.ensures.stops c.runs.invariant.plain in
    let all = c.tokens_over-next.ensures.plain broken in
    cuts_plain c.args.bytes.now c.tokens_over-next.result some (omega (arith, c.tokens_over-next.ensures.within.1, c.requires)) (sym c.if-is_white.ensures) all ms e

pub returns-then-next-seen-clause-goes : goal.returns-then-next-seen-clause-goes
returns-then-next-seen-clause-goes c = λ w n lt q.
    quiet_stops c.args.bytes.now c.args.end c.runs.at c.quiet_end-seen.result c.last_break-len.result c.tokens_over-next.result n q lt (c.runs.invariant.goes n lt q)
    c.quiet_end-seen.ensures.loud c.last_break-len.ensures.last (omega arith) c.tokens_over-next.ensures.within.0
