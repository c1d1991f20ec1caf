use Rattle.std.proofs.Common.{length, ◌-◌, ◌≤◌}
use Rattle.cb_tokens.proofs.Quotes.{QuoteAhead}
use Rattle.cb_tokens.proofs.quote.quote_end.Given as goal

abbrev pub invariant-bytes : goal.invariant-bytes
invariant-bytes l = (l.n ≤ length l.bytes) × QuoteAhead l.quote l.bytes l.n

abbrev pub decreases-bytes : goal.decreases-bytes
decreases-bytes l = length l.bytes - l.n
