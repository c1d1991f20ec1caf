use Rattle.std.proofs.Common.{ℕ, eqb, sym, ap, ◌∙◌}
use Rattle.cb_sets.specs.Sets.{members}
use Rattle.cb_sets.specs.inner.Tests.{passes}
use Rattle.cb_sets.specs.inner.Ranks.{rank_of}
use Rattle.cb_sets.proofs.Orders.{same_by_rank_turned}
use Rattle.cb_sets.proofs.counting.Test.is_passed.Goals as goal

pub returns-in-Is : goal.returns-in-Is
returns-in-Is c =
    ap (λ (n : ℕ). eqb n c.rank-in-Is.result) c.rank.ensures
    ∙ (ap (λ (n : ℕ). eqb (rank_of c.args.set) n) c.rank-in-Is.ensures
    ∙ (same_by_rank_turned c.in-Is.other c.args.set
    ∙ ap (λ t. passes t (members c.args.set)) (sym c.in-Is.is)))
