use Rattle.std.proofs.Common.{◌+◌, below_more}
use Rattle.cb_cond.specs.inner.Rests.{left}
use Rattle.cb_cond.proofs.Position.{at-less, at-next, at-item, at-end}
use Rattle.cb_cond.proofs.Wide.{wide-found, wide-at, narrow-all}
use Rattle.cb_cond.proofs.condition.has_wide.Goals as goal

pub returns-in-WideInteger-clause-wide : goal.returns-in-WideInteger-clause-wide
returns-in-WideInteger-clause-wide c = λ _.
    let all = left c.args.rest in
    let i = c.tokens.invariant.0 in
    let token = c.in-Some.token.now in
    let less = at-less all i (left c.tokens.rest) (left c.next.new.self) token c.tokens.invariant.1 c.in-Some.ensures in
    let item = at-item all i (left c.tokens.rest) (left c.next.new.self) token c.tokens.invariant.1 c.in-Some.ensures in
    wide-found c.args.language all i token c.token_symbol-symbol.result less item c.token_symbol-symbol.ensures c.in-WideInteger.is

pub tokens-preserved : goal.tokens-preserved
tokens-preserved c =
    let all = left c.args.rest in
    let i = c.tokens.invariant.0 in
    let token = c.in-Some.token.now in
    let less = at-less all i (left c.tokens.rest) (left c.next.new.self) token c.tokens.invariant.1 c.in-Some.ensures in
    let item = at-item all i (left c.tokens.rest) (left c.next.new.self) token c.tokens.invariant.1 c.in-Some.ensures in (
      i + 1,
      at-next all i (left c.tokens.rest) (left c.next.new.self) token c.tokens.invariant.1 c.in-Some.ensures,
      below_more _ _ c.tokens.invariant.2
          (λ e. c.in_default-symbol.not-WideInteger (wide-at c.args.language all i token c.token_symbol-symbol.result less item c.token_symbol-symbol.ensures e)),
    )

pub returns-clause-narrow : goal.returns-clause-narrow
returns-clause-narrow c = λ _.
    let all = left c.args.rest in
    let i = c.tokens.invariant.0 in
    narrow-all c.args.language all i (at-end all i (left c.tokens.rest) c.tokens.invariant.1 c.in_default.ensures) c.tokens.invariant.2
