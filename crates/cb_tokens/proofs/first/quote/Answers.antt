use Rattle.std.proofs.Common.{◌+◌, get_or, sym, subst}
use Rattle.cb_tokens.specs.Cut.{StandsFirst}
use Rattle.cb_tokens.specs.inner.Scan.{EndsQuote}
use Rattle.cb_tokens.specs.declared.first.First.TheVariants as first
use Rattle.cb_tokens.specs.declared.token.PieceKind.TheVariants as kinds
use Rattle.cb_tokens.specs.declared.quote.QuoteEnd.TheVariants.{Closed, Unclosed}
use Rattle.cb_tokens.proofs.QuoteArms.{is_quote_first, quote_stands}
use Rattle.cb_tokens.proofs.first.quote.Goals as goal

pub quote_end-requires : goal.quote_end-requires
quote_end-requires c = is_quote_first c.args.bytes.now c.requires

pub returns-in-Closed : goal.returns-in-Closed
returns-in-Closed c =
    let xs = c.args.bytes.now in
    subst (λ k. StandsFirst xs (first.Piece (kinds.Token k) (c.in-Closed.len + 1))) (sym c.quoted_kind.ensures)
    (quote_stands xs (Closed c.in-Closed.len) c.requires (subst (λ ys. EndsQuote (get_or xs 0 0) ys (Closed c.in-Closed.len)) c.behind.ensures c.in-Closed.ensures))

pub returns-in-Unclosed : goal.returns-in-Unclosed
returns-in-Unclosed c =
    let xs = c.args.bytes.now in
    quote_stands xs (Unclosed c.in-Unclosed.len) c.requires (subst (λ ys. EndsQuote (get_or xs 0 0) ys (Unclosed c.in-Unclosed.len)) c.behind.ensures c.in-Unclosed.ensures)
