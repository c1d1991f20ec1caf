use Rattle.std.proofs.Common.{◌+◌, get_or, sym, ◌∙◌, subst, arith}
use Rattle.cb_tokens.specs.Cut.{StandsFirst}
use Rattle.cb_tokens.specs.inner.Scan.{EndsQuote}
use Rattle.cb_tokens.specs.declared.first.First.TheVariants as first
use Rattle.cb_tokens.specs.declared.token.PieceKind.TheVariants as kinds
use Rattle.cb_tokens.specs.declared.token.TokenKind.TheVariants as tokens
use Rattle.cb_tokens.specs.declared.quote.QuoteEnd.TheVariants.{Closed, Unclosed}
use Rattle.cb_tokens.proofs.PrefixArms.{prefix_stands, identifier_stands, quote_there, quote_within}
use Rattle.cb_tokens.proofs.first.prefixed.Goals as goal

pub returns-then-before-eq0 : goal.returns-then-before-eq0
returns-then-before-eq0 c =
    let xs = c.args.bytes.now in
    subst (λ n. StandsFirst xs (first.Piece (kinds.Token tokens.Identifier) n)) (sym c.name_len.ensures)
    (identifier_stands xs c.requires (sym c.prefix_before_quote-before.ensures ∙ c.if-before-eq0.true))

pub bounds-bytes-before : goal.bounds-bytes-before
bounds-bytes-before c = quote_within c.args.bytes.now _ c.prefix_before_quote-before.ensures c.if-before-eq0.false

pub behind-requires : goal.behind-requires
behind-requires c =
    omega (arith, quote_within c.args.bytes.now c.prefix_before_quote-before.result c.prefix_before_quote-before.ensures c.if-before-eq0.false)

pub quote_end-requires : goal.quote_end-requires
quote_end-requires c = quote_there c.args.bytes.now _ c.prefix_before_quote-before.ensures c.if-before-eq0.false

pub bounds-bytes-before-in-Closed : goal.bounds-bytes-before-in-Closed
bounds-bytes-before-in-Closed c =
    quote_within c.args.bytes.now _ c.prefix_before_quote-before.ensures c.if-before-eq0.false

pub returns-in-Closed : goal.returns-in-Closed
returns-in-Closed c =
    let xs = c.args.bytes.now in
    let p = c.prefix_before_quote-before.result in
    subst (λ k. StandsFirst xs (first.Piece (kinds.Token k) (p + 1 + c.in-Closed.len))) (sym c.quoted_kind.ensures)
    (prefix_stands xs p (Closed c.in-Closed.len) c.requires c.prefix_before_quote-before.ensures c.if-before-eq0.false (subst (λ ys. EndsQuote (get_or xs p 0) ys (Closed c.in-Closed.len)) c.behind.ensures c.in-Closed.ensures))

pub returns-in-Unclosed : goal.returns-in-Unclosed
returns-in-Unclosed c =
    let xs = c.args.bytes.now in
    let p = c.prefix_before_quote-before.result in
    subst (λ n. StandsFirst xs (first.Piece (kinds.Token tokens.Identifier) n)) (sym c.name_len-in-Unclosed.ensures)
    (prefix_stands xs p (Unclosed c.in-Unclosed.field-0) c.requires c.prefix_before_quote-before.ensures c.if-before-eq0.false (subst (λ ys. EndsQuote (get_or xs p 0) ys (Unclosed c.in-Unclosed.field-0)) c.behind.ensures c.in-Unclosed.ensures))
