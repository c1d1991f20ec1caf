use Rattle.std.proofs.lemmas.Result.{err_from_is_err_and}
use Rattle.cb_tree.proofs.Runs.{run_tells}
use Rattle.cb_tree.proofs.stretch.pass_lines.Goals as goal

pub returns-in_err-place-clause-tells : goal.returns-in_err-place-clause-tells
returns-in_err-place-clause-tells c =
    let p = err_from_is_err_and c.from_residual.result c.from_residual.ensures.1 in
    rw (p.1, p.2) (λ ms run.
    run_tells ms c.lines.place c.lines.counted c.lines.walk c.in_err-place.field-0.0 (c.lines.invariant.goes ms run) c.in_err-place.ensures.tells)
