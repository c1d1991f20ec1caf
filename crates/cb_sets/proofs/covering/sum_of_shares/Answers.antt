use Rattle.std.proofs.Common.{◌≡◌, ℕ, ◌+◌, ap, ◌∙◌, arith}
use Rattle.cb_paths.specs.Grid.{share}
use Rattle.cb_sets.specs.Tallies.{lines_of}
use Rattle.cb_sets.proofs.Tallied.{sum_more}
use Rattle.cb_sets.proofs.covering.sum_of_shares.Goals as goal

pub platforms-preserved : goal.platforms-preserved
platforms-preserved c =
    let more = sum_more (λ platform. share (lines_of platform c.args.map.now) c.args.total) c.platforms.place in
    let value : c.share-sum.result ≡ share (lines_of (c.platforms.place + 1) c.args.map.now) c.args.total =
    c.share-sum.ensures.value ∙ ap (λ (n : ℕ). share n c.args.total) c.of.ensures.value in
    record {
      sum = omega (arith, more, value, c.platforms.invariant.sum);
      within = omega (arith, c.share-sum.ensures.within);
    }
