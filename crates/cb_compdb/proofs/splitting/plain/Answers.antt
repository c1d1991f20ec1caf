use Rattle.std.proofs.Common.{arith}
use Rattle.std.proofs.lemmas.List.Sums.{prefix_len-le-length}
use Rattle.cb_compdb.specs.Pieces.{is_plain}
use Rattle.cb_compdb.proofs.SplitSteps.{plain_read}
use Rattle.cb_compdb.proofs.splitting.plain.Goals as goal

pub split_at-requires : goal.split_at-requires
split_at-requires c = omega (arith, c.plain_len.ensures, prefix_len-le-length is_plain c.args.bytes.now)

pub returns-clause-leads : goal.returns-clause-leads
returns-clause-leads c =
    plain_read c.plain_len.result c.args.bytes.now c.split_at.result.0.now c.split_at.result.1.now c.args.first c.args.behind.now c.args.splitter.now c.add.new.self c.plain_len.ensures c.split_at.ensures.front c.split_at.ensures.back c.requires.front c.requires.plain c.in_ok-add.ensures
