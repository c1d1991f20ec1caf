use Rattle.std.proofs.Common.{None, Some, ◌++◌, arith}
use Rattle.std.proofs.lemmas.Result.{err_from_is_err_and}
use Rattle.cb_tree.proofs.Directives.{directive_tells, goes_none, goes_on}
use Rattle.cb_tree.proofs.directive.read_behind.Goals as goal

pub pieces-init : goal.pieces-init
pieces-init c = (goes_none c.args.spaced c.args.counted.now c.args.walk.now c.args.tokens.now.items, omega arith, omega arith, omega arith)

pub pieces-preserved : goal.pieces-preserved
pieces-preserved c =
    let row =
    goes_on c.args.spaced c.pieces.spaced c.args.counted.now c.pieces.counted c.pass_row.new.counted c.args.walk.now c.pieces.walk c.pass_row.new.walk
    c.args.tokens.now.items c.pieces.tokens.items c.pass_row.new.tokens.items (Some c.in-Some.ahead) c.pieces.invariant.0 (rw c.in-Some.is at c.in_ok-ahead.ensures.goes) in (
      goes_on c.args.spaced c.in-Some.ahead c.args.counted.now c.pass_row.new.counted c.pass_piece.new.counted c.args.walk.now c.pass_row.new.walk c.pass_piece.new.walk
          c.args.tokens.now.items c.pass_row.new.tokens.items c.pass_piece.new.tokens.items (Some c.in-Some-2.next) row (rw c.in-Some-2.is at c.in_ok-next.ensures.goes),
      omega (arith, c.pieces.invariant.1, c.in_ok-ahead.ensures.shorter, rw c.in-Some-2.is at c.in_ok-next.ensures.shorter),
      omega (arith, c.pieces.invariant.2, c.in_ok-ahead.ensures.few, c.in_ok-next.ensures.few),
      omega (arith, c.pieces.invariant.3, c.in_ok-ahead.ensures.few_tokens, c.in_ok-next.ensures.few_tokens),
    )

pub returns-in-None-clause-goes : goal.returns-in-None-clause-goes
returns-in-None-clause-goes c =
    let row =
    goes_on c.args.spaced c.pieces.spaced c.args.counted.now c.pieces.counted c.pass_row.new.counted c.args.walk.now c.pieces.walk c.pass_row.new.walk
    c.args.tokens.now.items c.pieces.tokens.items c.pass_row.new.tokens.items (Some c.in-Some.ahead) c.pieces.invariant.0 (rw c.in-Some.is at c.in_ok-ahead.ensures.goes) in
    goes_on c.args.spaced c.in-Some.ahead c.args.counted.now c.pass_row.new.counted c.pass_piece.new.counted c.args.walk.now c.pass_row.new.walk c.pass_piece.new.walk
    c.args.tokens.now.items c.pass_row.new.tokens.items c.pass_piece.new.tokens.items None row (rw c.in-None.is at c.in_ok-next.ensures.goes)

pub returns-in_err-next-clause-tells : goal.returns-in_err-next-clause-tells
returns-in_err-next-clause-tells c =
    let p = err_from_is_err_and c.from_residual-in_err-next.result c.from_residual-in_err-next.ensures.1 in
    let row =
    goes_on c.args.spaced c.pieces.spaced c.args.counted.now c.pieces.counted c.pass_row.new.counted c.args.walk.now c.pieces.walk c.pass_row.new.walk
    c.args.tokens.now.items c.pieces.tokens.items c.pass_row.new.tokens.items (Some c.in-Some.ahead) c.pieces.invariant.0 (rw c.in-Some.is at c.in_ok-ahead.ensures.goes) in
    rw (p.1, p.2) (λ own ms line.
    directive_tells ms (own ++ row.kept) c.in-Some.ahead c.pass_row.new.counted c.pass_row.new.walk c.in_err-next.field-0.0 (row.goes ms own line)
    c.in_err-next.ensures.tells)

pub returns-in_default-clause-goes : goal.returns-in_default-clause-goes
returns-in_default-clause-goes c =
    goes_on c.args.spaced c.pieces.spaced c.args.counted.now c.pieces.counted c.pass_row.new.counted c.args.walk.now c.pieces.walk c.pass_row.new.walk
    c.args.tokens.now.items c.pieces.tokens.items c.pass_row.new.tokens.items None c.pieces.invariant.0 (rw c.in_default.is at c.in_ok-ahead.ensures.goes)

pub returns-in_default-clause-few_tokens : goal.returns-in_default-clause-few_tokens
returns-in_default-clause-few_tokens c = omega (arith, c.pieces.invariant.3, c.in_ok-ahead.ensures.few_tokens)

pub returns-in-None-clause-few_tokens : goal.returns-in-None-clause-few_tokens
returns-in-None-clause-few_tokens c = omega (arith, c.pieces.invariant.3, c.in_ok-ahead.ensures.few_tokens, c.in_ok-next.ensures.few_tokens)
