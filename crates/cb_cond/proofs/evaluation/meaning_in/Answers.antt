use Rattle.std.proofs.Common.{◌+◌, length, arith, length-drop}
use Rattle.cb_cond.specs.inner.Rests.{left}
use Rattle.cb_cond.specs.Symbols.{symbols}
use Rattle.cb_cond.specs.inner.Frames.{read_of}
use Rattle.cb_cond.proofs.Along.{start-image, step-read, failed-at, read-end, room}
use Rattle.cb_cond.proofs.Position.{at-start, at-less, at-next, at-item, at-end}
use Rattle.cb_cond.proofs.evaluation.meaning_in.Goals as goal

pub tokens-init : goal.tokens-init
tokens-init c = (
  0,
  at-start (left c.args.rest),
  rw c.start-position.ensures.held (rw c.start-position.ensures.top (start-image c.args.frames.now)),
  omega (arith, c.start-position.ensures.top),
)

pub returns-then-position-eq0 : goal.returns-then-position-eq0
returns-then-position-eq0 c = λ enough.
    let r = room (symbols c.args.language (left c.args.rest)) (length c.args.frames.now) c.tokens.invariant.0 _ _ enough c.tokens.invariant.2 in
    omega (arith, r, length-drop c.tokens.position.top c.tokens.frames, c.tokens.auto.frames)

pub returns-in_default-read_symbol : goal.returns-in_default-read_symbol
unfolding read_of
returns-in_default-read_symbol c =
    let all = left c.args.rest in
    let i = c.tokens.invariant.0 in
    let token = c.in-Some.token.now in
    let less = at-less all i (left c.tokens.rest) (left c.next.new.self) token c.tokens.invariant.1 c.in-Some.ensures in
    let item = at-item all i (left c.tokens.rest) (left c.next.new.self) token c.tokens.invariant.1 c.in-Some.ensures in
    failed-at _ (i + 1) (step-read c.args.language all i token c.token_symbol.result _ _ _ less item c.token_symbol.ensures c.tokens.invariant.2 c.in_default-read_symbol.ensures.read)

pub tokens-preserved : goal.tokens-preserved
unfolding read_of
tokens-preserved c =
    let all = left c.args.rest in
    let i = c.tokens.invariant.0 in
    let token = c.in-Some.token.now in
    let less = at-less all i (left c.tokens.rest) (left c.next.new.self) token c.tokens.invariant.1 c.in-Some.ensures in
    let item = at-item all i (left c.tokens.rest) (left c.next.new.self) token c.tokens.invariant.1 c.in-Some.ensures in (
      i + 1,
      at-next all i (left c.tokens.rest) (left c.next.new.self) token c.tokens.invariant.1 c.in-Some.ensures,
      step-read c.args.language all i token c.token_symbol.result _ _ _ less item c.token_symbol.ensures c.tokens.invariant.2 c.in-Some-read_symbol.ensures.read,
      c.in-Some-read_symbol.ensures.within,
    )

pub returns : goal.returns
returns c =
    let all = left c.args.rest in
    let i = c.tokens.invariant.0 in
    read-end c.args.language all i _ _ _ (at-end all i (left c.tokens.rest) c.tokens.invariant.1 c.in_default.ensures) c.tokens.invariant.2 c.whole.ensures
