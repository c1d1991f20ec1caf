use Rattle.cb_cluster.proofs.Unique.{one_list, one_classes, agree}
use Rattle.cb_cluster.proofs.laws.one_clustering.Goals as goal

pub returns-clause-merges : goal.returns-clause-merges
returns-clause-merges c = one_list

pub returns-clause-classes : goal.returns-clause-classes
returns-clause-classes c = one_classes

pub returns-clause-agree : goal.returns-clause-agree
returns-clause-agree c = agree
