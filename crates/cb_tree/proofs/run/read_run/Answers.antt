use Rattle.std.proofs.Common.{length, ap, arith}
use Rattle.std.proofs.lemmas.Result.{err_from_is_err_and}
use Rattle.cb_tokens.specs.declared.token.PieceKind.TheVariants as kinds
use Rattle.cb_tree.proofs.Pieces.{shorter, within}
use Rattle.cb_tree.proofs.Runs.{run_start, start_few}
use Rattle.cb_tree.proofs.run.read_run.Goals as goal

pub returns-clause-reads : goal.returns-clause-reads
returns-clause-reads c =
    c.in_ok-all.ensures.reads c.args.walk.now
    (rw (c.in_ok-pass_counted.ensures.passed, c.in_ok-pass_counted.ensures.counted, c.new-counted.ensures) (run_start c.args.walk.now c.args.token.kind c.args.token.len c.requires.stands c.requires.text))

pub returns-clause-shorter : goal.returns-clause-shorter
returns-clause-shorter c =
    omega (arith, c.in_ok-all.ensures.shorter, ap length c.in_ok-pass_counted.ensures.passed, shorter c.args.walk.now (kinds.Token c.args.token.kind) c.args.token.len c.requires.stands)

pub returns-clause-few : goal.returns-clause-few
returns-clause-few c =
    omega (
      arith,
      c.in_ok-all.ensures.few,
      ap length c.in_ok-pass_counted.ensures.passed,
      ap length (rw c.new-counted.ensures at c.in_ok-pass_counted.ensures.counted),
      start_few c.args.token.len c.args.walk.now (within c.args.walk.now (kinds.Token c.args.token.kind) c.args.token.len c.requires.stands),
    )

pub returns-in_err-all-clause-tells : goal.returns-in_err-all-clause-tells
returns-in_err-all-clause-tells c =
    let p = err_from_is_err_and c.from_residual-in_err-all.result c.from_residual-in_err-all.ensures.1 in
    rw (p.1, p.2)
    (c.in_err-all.ensures.tells c.args.walk.now
    (rw (c.in_ok-pass_counted.ensures.passed, c.in_ok-pass_counted.ensures.counted, c.new-counted.ensures) (run_start c.args.walk.now c.args.token.kind c.args.token.len c.requires.stands c.requires.text)))
