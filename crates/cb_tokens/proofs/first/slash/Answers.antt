use Rattle.std.proofs.Common.{sym, ◌∙◌, subst, ne_eqb, arith, Some, None}
use Rattle.cb_tokens.specs.Cut.{StandsFirst}
use Rattle.cb_tokens.specs.inner.Scan.{EndsComment}
use Rattle.cb_tokens.specs.declared.first.First.TheVariants as first
use Rattle.cb_tokens.specs.declared.token.PieceKind.TheVariants as kinds
use Rattle.cb_tokens.proofs.MoreArms.{slash_first}
use Rattle.cb_tokens.proofs.QuoteArms.{block_stands, line_stands, slash_stands}
use Rattle.cb_tokens.proofs.first.slash.Goals as goal

pub punctuator_len-requires : goal.punctuator_len-requires
punctuator_len-requires c = slash_first c.args.bytes.now c.requires

pub returns-then-second-eq47 : goal.returns-then-second-eq47
returns-then-second-eq47 c =
    let xs = c.args.bytes.now in
    subst (λ n. StandsFirst xs (first.Piece kinds.Comment n)) (sym c.line_len.ensures) (line_stands xs c.requires (cc))

pub returns-then-second-ne42 : goal.returns-then-second-ne42
returns-then-second-ne42 c =
    slash_stands c.args.bytes.now c.punctuator_len.result c.requires (ne_eqb _ _ (λ e. c.if-second-ne42.true (c.byte_at-second.ensures ∙ e)))
    (ne_eqb _ _ (λ e. c.if-second-eq47.false (c.byte_at-second.ensures ∙ e)))
    (c.punctuator_len.ensures.longest 1 (omega (arith, c.requires.some)) (slash_first c.args.bytes.now c.requires)) c.punctuator_len.ensures

pub returns-in-None : goal.returns-in-None
returns-in-None c =
    block_stands c.args.bytes.now None c.requires (cc)
    (subst (λ ys. EndsComment ys None) c.behind.ensures c.in-None.ensures)

pub returns-in-Some : goal.returns-in-Some
returns-in-Some c =
    block_stands c.args.bytes.now (Some c.in-Some.len) c.requires (cc)
    (subst (λ ys. EndsComment ys (Some c.in-Some.len)) c.behind.ensures c.in-Some.ensures)
