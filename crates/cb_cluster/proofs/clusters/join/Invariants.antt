use Rattle.std.proofs.Common.{◌≡◌, ◌++◌, map, take, drop, cond, eqb}
use Rattle.cb_cluster.proofs.clusters.join.Given as goal

abbrev pub invariant-loop-name : goal.invariant-loop-name
invariant-loop-name l = l.names ≡ map (λ name. cond (eqb name l.right) l.left name) (take l.name-index l.initial.names) ++ drop l.name-index l.initial.names
