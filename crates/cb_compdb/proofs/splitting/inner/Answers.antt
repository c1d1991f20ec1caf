use Rattle.std.proofs.Common.{arith}
use Rattle.std.proofs.lemmas.List.Sums.{prefix_len-le-length}
use Rattle.cb_compdb.specs.Pieces.{is_inner_byte}
use Rattle.cb_compdb.proofs.SplitSteps.{inner_run_read}
use Rattle.cb_compdb.proofs.splitting.inner.Goals as goal

pub split_at-requires : goal.split_at-requires
split_at-requires c = omega (arith, c.inner_len.ensures, prefix_len-le-length is_inner_byte c.args.bytes.now)

pub returns-clause-leads : goal.returns-clause-leads
returns-clause-leads c =
    inner_run_read c.inner_len.result c.args.bytes.now c.split_at.result.0.now c.split_at.result.1.now c.args.splitter.now c.add.new.self c.inner_len.ensures c.split_at.ensures.front c.split_at.ensures.back c.in_ok-add.ensures
