use Rattle.std.proofs.Common.{sym}
use Rattle.cb_cluster.proofs.Linked.{pairs-count}
use Rattle.cb_cluster.proofs.linking.pair_count.Goals as goal

pub returns : goal.returns
returns c = let pairs = sym (pairs-count c.args.count) in cc
