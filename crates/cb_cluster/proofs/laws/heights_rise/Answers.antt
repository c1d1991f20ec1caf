use Rattle.cb_cluster.proofs.Unique.{heights_rise}
use Rattle.cb_cluster.proofs.laws.heights_rise.Goals as goal

pub returns : goal.returns
returns c = heights_rise
