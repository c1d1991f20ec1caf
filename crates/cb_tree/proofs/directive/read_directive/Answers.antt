use Rattle.std.proofs.Common.{length, ap, arith}
use Rattle.std.proofs.lemmas.Result.{err_from_is_err_and}
use Rattle.cb_tokens.specs.declared.token.PieceKind.TheVariants as kinds
use Rattle.cb_tree.proofs.Pieces.{shorter, within}
use Rattle.cb_tree.proofs.Runs.{start_few}
use Rattle.cb_tree.proofs.Directives.{hash_start}
use Rattle.cb_tree.proofs.directive.read_directive.Goals as goal

pub returns-clause-reads : goal.returns-clause-reads
returns-clause-reads c =
    c.in_ok-head.ensures.reads c.args.walk.now
    (hash_start c.args.walk.now c.args.token.kind c.args.token.len c.hash_of-hash.result c.pass_counted.new.counted c.pass_counted.new.walk c.requires.stands c.requires.hash
    (rw c.rest.ensures at c.hash_of-hash.ensures) (rw c.new-counted.ensures at c.in_ok-pass_counted.ensures.counted) c.in_ok-pass_counted.ensures.passed)

pub returns-clause-shorter : goal.returns-clause-shorter
returns-clause-shorter c =
    omega (
      arith,
      c.in_ok-head.ensures.shorter,
      ap length c.in_ok-pass_counted.ensures.passed,
      shorter c.args.walk.now (kinds.Token c.args.token.kind) c.args.token.len c.requires.stands,
    )

pub returns-clause-few : goal.returns-clause-few
returns-clause-few c =
    omega (
      arith,
      c.in_ok-head.ensures.few,
      ap length c.in_ok-pass_counted.ensures.passed,
      ap length (rw c.new-counted.ensures at c.in_ok-pass_counted.ensures.counted),
      start_few c.args.token.len c.args.walk.now (within c.args.walk.now (kinds.Token c.args.token.kind) c.args.token.len c.requires.stands),
    )

pub returns-in_err-head-clause-tells : goal.returns-in_err-head-clause-tells
returns-in_err-head-clause-tells c =
    let p = err_from_is_err_and c.from_residual-in_err-head.result c.from_residual-in_err-head.ensures.1 in
    rw (p.1, p.2)
    (c.in_err-head.ensures.tells c.args.walk.now
    (hash_start c.args.walk.now c.args.token.kind c.args.token.len c.hash_of-hash.result c.pass_counted.new.counted c.pass_counted.new.walk c.requires.stands c.requires.hash
    (rw c.rest.ensures at c.hash_of-hash.ensures) (rw c.new-counted.ensures at c.in_ok-pass_counted.ensures.counted) c.in_ok-pass_counted.ensures.passed))
