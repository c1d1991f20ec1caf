use Rattle.std.proofs.Common.{◌≡◌, length, ap, ◌∙◌, arith}
use Rattle.std.proofs.lemmas.List.FromFn.{length-range_with_len}
use Rattle.cb_cluster.proofs.standing.classes_after.Goals as goal

pub clusters-requires : goal.clusters-requires
clusters-requires c =
    let count = c.args.count in
    let n : length c.deref_mut.result.now ≡ count = ap length (c.deref_mut.ensures.value ∙ c.in_ok-names.ensures) ∙ length-range_with_len 1 count in
    omega (arith, c.deref.ensures.len, c.deref_mut.ensures.len, n, c.ranges.count)
