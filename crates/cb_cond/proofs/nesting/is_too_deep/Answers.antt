use Rattle.std.proofs.Common.{◌+◌, refl, arith}
use Rattle.cb_cond.specs.inner.Rests.{left}
use Rattle.cb_cond.specs.Symbols.{symbol, symbols}
use Rattle.cb_cond.proofs.Position.{at-less, at-next, at-item, at-end, symbol-less, symbol-at, symbols-end}
use Rattle.cb_cond.proofs.Depth.{leaves-next, too-deep, not-deep, short-flat, slack-small}
use Rattle.cb_cond.proofs.nesting.is_too_deep.Goals as goal

pub returns-then-is_short-clause-flat : goal.returns-then-is_short-clause-flat
returns-then-is_short-clause-flat c = λ language _. short-flat (symbols language (left c.args.rest)) (symbols-end language (left c.args.rest) 256 (c.if-is_short.ensures.short refl))

pub returns-in_default-slack_behind-clause-deep : goal.returns-in_default-slack_behind-clause-deep
returns-in_default-slack_behind-clause-deep c = λ language _.
    let all = left c.args.rest in
    let i = c.tokens.invariant.0 in
    let less = at-less all i (left c.tokens.rest) (left c.next.new.self) c.in-Some.token.now c.tokens.invariant.1 c.in-Some.ensures in
    let item = at-item all i (left c.tokens.rest) (left c.next.new.self) c.in-Some.token.now c.tokens.invariant.1 c.in-Some.ensures in
    too-deep (symbols language all) i (symbol language c.in-Some.token.now) c.outline_symbol.result c.tokens.slack (symbol-less language all i less) (symbol-at language all i c.in-Some.token.now less item)
    (record { opens = c.outline_symbol.ensures.opens language; closes = c.outline_symbol.ensures.closes language; asks = c.outline_symbol.ensures.asks language }) (c.tokens.invariant.2 language) c.in_default-slack_behind.ensures

pub tokens-preserved : goal.tokens-preserved
tokens-preserved c =
    let all = left c.args.rest in
    let i = c.tokens.invariant.0 in
    let less = at-less all i (left c.tokens.rest) (left c.next.new.self) c.in-Some.token.now c.tokens.invariant.1 c.in-Some.ensures in
    let item = at-item all i (left c.tokens.rest) (left c.next.new.self) c.in-Some.token.now c.tokens.invariant.1 c.in-Some.ensures in (
      i + 1,
      at-next all i (left c.tokens.rest) (left c.next.new.self) c.in-Some.token.now c.tokens.invariant.1 c.in-Some.ensures,
      λ language.
          leaves-next (symbols language all) i (symbol language c.in-Some.token.now) c.outline_symbol.result c.tokens.slack c.in-Some-slack_behind.behind (symbol-less language all i less) (symbol-at language all i c.in-Some.token.now less item)
          (record { opens = c.outline_symbol.ensures.opens language; closes = c.outline_symbol.ensures.closes language; asks = c.outline_symbol.ensures.asks language }) (c.tokens.invariant.2 language) c.in-Some-slack_behind.ensures,
      omega (arith, slack-small c.tokens.slack c.in-Some-slack_behind.behind c.outline_symbol.result (256 + i) c.in-Some-slack_behind.ensures c.tokens.invariant.3),
    )

pub returns-clause-flat : goal.returns-clause-flat
returns-clause-flat c = λ language _.
    not-deep (symbols language (left c.args.rest)) c.tokens.invariant.0 c.tokens.slack (symbols-end language (left c.args.rest) c.tokens.invariant.0 (at-end (left c.args.rest) c.tokens.invariant.0 (left c.tokens.rest) c.tokens.invariant.1 c.in_default.ensures)) (c.tokens.invariant.2 language)
