use Rattle.std.proofs.Common.{rules, ltb, ltb-true, ltb-false, arith}
use Rattle.std.proofs.lemmas.List.Sorted.{IsPartitionPoint-from_clause, IsPartitionedBy-ltb}
use Rattle.cb_sets.specs.declared.row.Row.{Row}
use Rattle.cb_sets.specs.inner.Ranks.{rank_of}
use Rattle.cb_sets.proofs.Placed.{ranks_rise}
use Rattle.cb_sets.proofs.rows.place_of.Goals as goal

pub returns-clause-before : goal.returns-clause-before
returns-clause-before c =
    let parted = IsPartitionedBy-ltb (λ (r : Row). rank_of r.set) c.args.rows.now c.args.rank (ranks_rise 0 c.args.rows.now c.requires) in
    let point = IsPartitionPoint-from_clause (λ (r : Row). ltb (rank_of r.set) c.args.rank) _ _ c.partition_point.ensures.partitioned parted (λ a r q k. search rules) in
    λ k d h. ltb-true _ _ (point.0 k d (omega arith) h)

pub returns-clause-behind : goal.returns-clause-behind
returns-clause-behind c =
    let parted = IsPartitionedBy-ltb (λ (r : Row). rank_of r.set) c.args.rows.now c.args.rank (ranks_rise 0 c.args.rows.now c.requires) in
    let point = IsPartitionPoint-from_clause (λ (r : Row). ltb (rank_of r.set) c.args.rank) _ _ c.partition_point.ensures.partitioned parted (λ a r q k. search rules) in
    λ k d h l. ltb-false _ _ (point.1 k d h l)
