use Rattle.std.proofs.Common.{◌≡◌, ℕ, ◌+◌, ◌≤◌, ◌==◌, List, ◌<◌, true, false, length, get_or, refl, sym, subst, arith, ne_eqb}
use Rattle.cb_tokens.specs.Forms.{is_quote}
use Rattle.cb_tokens.specs.inner.Scan.{quote_step, is_inner}
use Rattle.cb_tokens.proofs.Quotes.{QuoteAhead, ahead_start, ahead_closed, ahead_feed, ahead_step, ahead_end, ahead_run, quote_some}
use Rattle.cb_tokens.proofs.quote.quote_end.Goals as goal

pub bytes-init : goal.bytes-init
bytes-init c = (omega arith, ahead_start c.args.quote c.args.bytes.now)

pub inner_end-n-requires-clause-some : goal.inner_end-n-requires-clause-some
inner_end-n-requires-clause-some c = quote_some c.args.quote c.requires

-- over the bytes within it
run : (quote : ℕ) (xs : List ℕ) → is_quote quote ≡ true → (n m : ℕ) → (n ≤ m) × (m < length xs) → ((k : ℕ) → n ≤ k → k < m → is_inner quote (get_or xs k 0) ≡ true) → QuoteAhead quote xs n → QuoteAhead quote xs m
run quote xs is n m within inner ahead = ahead_run quote xs n m is within.0 (omega (arith, within.1)) inner ahead

pub returns-then-byte-quote : goal.returns-then-byte-quote
returns-then-byte-quote c =
    ahead_closed c.args.quote c.args.bytes.now c.inner_end-n.result c.inner_end-n.ensures.within.1 c.if-byte-quote.true (run c.args.quote c.args.bytes.now c.requires c.bytes.n c.inner_end-n.result c.inner_end-n.ensures.within c.inner_end-n.ensures.inner c.bytes.invariant.1)

pub returns-then-is_line_feed : goal.returns-then-is_line_feed
returns-then-is_line_feed c =
    ahead_feed c.args.quote c.args.bytes.now c.inner_end-n.result c.requires c.inner_end-n.ensures.within.1 (cc) (run c.args.quote c.args.bytes.now c.requires c.bytes.n c.inner_end-n.result c.inner_end-n.ensures.within c.inner_end-n.ensures.inner c.bytes.invariant.1)

pub bytes-preserved : goal.bytes-preserved
bytes-preserved c =
    let P : ℕ → Type 0 =
    λ k. (c.inner_end-n.result + k ≤ length c.args.bytes.now) × QuoteAhead c.args.quote c.args.bytes.now (c.inner_end-n.result + k) in
    subst P (sym c.quote_step-n.ensures)
    (ahead_step c.args.quote c.args.bytes.now c.inner_end-n.result c.requires c.inner_end-n.ensures.within.1 (ne_eqb _ _ c.if-byte-quote.false) (cc) (run c.args.quote c.args.bytes.now c.requires c.bytes.n c.inner_end-n.result c.inner_end-n.ensures.within c.inner_end-n.ensures.inner c.bytes.invariant.1))

pub returns : goal.returns
returns c = ahead_end c.args.quote c.args.bytes.now c.bytes.n c.requires c.bytes-test.false c.bytes.invariant.1

-- the step over a byte that is no backslash
one_step : (xs : List ℕ) (n : ℕ) → (get_or xs n 0 == 92) ≡ false → quote_step xs n ≡ 1
one_step xs n h = rw h refl

pub bytes-preserved-then-byte-ne92 : goal.bytes-preserved-then-byte-ne92
bytes-preserved-then-byte-ne92 c =
    let P : ℕ → Type 0 =
    λ k. (c.inner_end-n.result + k ≤ length c.args.bytes.now) × QuoteAhead c.args.quote c.args.bytes.now (c.inner_end-n.result + k) in
    subst P (one_step c.args.bytes.now c.inner_end-n.result (ne_eqb _ _ c.if-byte-ne92.true))
    (ahead_step c.args.quote c.args.bytes.now c.inner_end-n.result c.requires c.inner_end-n.ensures.within.1 (ne_eqb _ _ c.if-byte-quote.false) (cc) (run c.args.quote c.args.bytes.now c.requires c.bytes.n c.inner_end-n.result c.inner_end-n.ensures.within c.inner_end-n.ensures.inner c.bytes.invariant.1))
