use Rattle.std.proofs.Common.{◌==◌, not, arith}
use Rattle.std.proofs.lemmas.List.Sums.{prefix_len-le-length}
use Rattle.cb_compdb.proofs.SplitSteps.{single_read, single_open}
use Rattle.cb_compdb.proofs.splitting.single.Goals as goal

pub split_at-requires : goal.split_at-requires
split_at-requires c = omega (arith, c.single_len.ensures, prefix_len-le-length (λ b. not (b == 39)) c.args.bytes.now)

pub returns-in_ok-add-in-Some-clause-leads : goal.returns-in_ok-add-in-Some-clause-leads
returns-in_ok-add-in-Some-clause-leads c =
    single_read c.single_len.result c.args.bytes.now c.split_at.result.0.now c.split_at.result.1.now c.in-Some._quote.now c.in-Some.left.now c.args.splitter.now c.add.new.self c.single_len.ensures c.split_at.ensures.front c.split_at.ensures.back c.in-Some.ensures.cases.0 c.in_ok-add-in-Some.ensures

pub returns-in-None-clause-leads : goal.returns-in-None-clause-leads
returns-in-None-clause-leads c =
    single_open c.single_len.result c.args.bytes.now c.split_at.result.0.now c.split_at.result.1.now c.single_len.ensures c.split_at.ensures.front c.split_at.ensures.back c.in-None.ensures.cases
