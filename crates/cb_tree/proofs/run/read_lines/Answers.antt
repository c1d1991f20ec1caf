use Rattle.std.proofs.lemmas.Result.{err_from_is_err_and}
use Rattle.std.proofs.Common.{refl}
use Rattle.cb_lines.specs.Marks.{bytes_of}
use Rattle.cb_tokens.specs.declared.token.TokenKind.TheVariants as token
use Rattle.cb_tree.proofs.HashTokens.{hash_bytes}
use Rattle.cb_tree.proofs.Runs.{run_ends_at, run_tells}
use Rattle.cb_tree.proofs.run.read_lines.Goals as goal

pub returns-in_err-next-clause-tells : goal.returns-in_err-next-clause-tells
returns-in_err-next-clause-tells c =
    let p = err_from_is_err_and c.from_residual-in_err-next.result c.from_residual-in_err-next.ensures.1 in
    rw (p.1, p.2) (λ ms run.
    run_tells ms c.in_ok-place.place c.pass_lines.new.counted c.pass_lines.new.walk c.in_err-next.field-0.0 (c.in_ok-place.ensures.goes ms (c.pieces.invariant.goes ms run)) c.in_err-next.ensures.tells)

pub returns-in_err-place-clause-tells : goal.returns-in_err-place-clause-tells
returns-in_err-place-clause-tells c =
    let p = err_from_is_err_and c.from_residual.result c.from_residual.ensures.1 in
    rw (p.1, p.2) (λ ms run. c.in_err-place.ensures.tells ms (c.pieces.invariant.goes ms run))

pub returns-in-None-clause-reads : goal.returns-in-None-clause-reads
returns-in-None-clause-reads c = λ ms run. (rw c.in-None.is at c.in_ok-next.ensures.goes) ms (c.in_ok-place.ensures.goes ms (c.pieces.invariant.goes ms run))

pub returns-then-ends_run-clause-reads : goal.returns-then-ends_run-clause-reads
returns-then-ends_run-clause-reads c = λ ms run.
    let walk = c.pass_lines.new.walk in
    let ends = rw c.rest.ensures at c.if-ends_run.ensures refl in
    run_ends_at ms c.in_ok-place.place c.pass_lines.new.counted walk token.Punct 1 ends.2 ends.0 (hash_bytes (bytes_of walk) ends.1) (c.in_ok-place.ensures.goes ms (c.pieces.invariant.goes ms run))
