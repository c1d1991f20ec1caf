use Rattle.cb_lines.specs.Marks.{bytes_of}
use Rattle.std.proofs.Common.{sym, ◌∷◌, Some, subst}
use Rattle.cb_tokens.specs.inner.Whole.{IsDecided}
use Rattle.cb_tokens.specs.declared.left.QuoteLeft.TheVariants.{Closed, Unclosed, Broken}
use Rattle.cb_tokens.proofs.QuoteArms.{is_quote_first}
use Rattle.cb_tokens.proofs.Decided.{quote_decided}
use Rattle.cb_tokens.proofs.whole.quote.Goals as goal

pub quote_left-requires : goal.quote_left-requires
quote_left-requires c = is_quote_first (c.args.first ∷ bytes_of c.args.marker.now) c.requires

pub returns-in-Closed : goal.returns-in-Closed
returns-in-Closed c =
    subst (λ k. IsDecided (c.args.first ∷ bytes_of c.args.marker.now) (Some k)) (sym c.quoted_kind.ensures)
    (quote_decided c.args.first (bytes_of c.args.marker.now) Closed c.requires c.in-Closed.ensures)

pub returns-in-Unclosed : goal.returns-in-Unclosed
returns-in-Unclosed c = quote_decided c.args.first (bytes_of c.args.marker.now) Unclosed c.requires c.in-Unclosed.ensures

pub returns-in-Broken : goal.returns-in-Broken
returns-in-Broken c = quote_decided c.args.first (bytes_of c.args.marker.now) Broken c.requires c.in-Broken.ensures
