use Rattle.std.proofs.Common.{◌≡◌, ℕ, ◌+◌, ◌<◌, Bool, true, false, cond, List, ◌∷◌, length, get_or, drop, sym, ap, ◌∙◌}
use Rattle.std.proofs.lemmas.List.{drop_more, drop_all}
use Rattle.cb_diverge.specs.declared.fraction.Fraction.{Fraction}
use Rattle.cb_diverge.specs.Distances.{is_less}
use Rattle.cb_cluster.specs.declared.merge.Merge.{Merge}
use Rattle.cb_cluster.specs.Names.{joined}
use Rattle.cb_cluster.specs.Merging.{least_of, names_after}
use Rattle.cb_cluster.proofs.standing.join_merges.Goals as goal

-- one merge more
after-more : (h : Fraction) (names new : List ℕ) (ms : List Merge) (i : ℕ) (m : Merge) → i < length ms → m ≡ get_or ms i m
    → new ≡ cond (is_less h m.height) names (joined names (least_of m.left) (least_of m.right))
    → names_after h new (drop (i + 1) ms) ≡ names_after h names (drop i ms)
after-more h names new ms i m within is e =
    by (is_less h m.height) e ∙ sym (ap (names_after h names) (drop_more ms i m within ∙ ap (λ (y : Merge). y ∷ drop (i + 1) ms) (sym is)))
  where
    by : (b : Bool) → new ≡ cond b names (joined names (least_of m.left) (least_of m.right))
        → names_after h new (drop (i + 1) ms)
        ≡ cond b (names_after h names (drop (i + 1) ms)) (names_after h (joined names (least_of m.left) (least_of m.right)) (drop (i + 1) ms))
    by true e = ap (λ ns. names_after h ns (drop (i + 1) ms)) e
    by false e = ap (λ ns. names_after h ns (drop (i + 1) ms)) e

pub merges-preserved : goal.merges-preserved
merges-preserved c =
    after-more c.args.h c.merges.names c.join_merged.new.names c.args.merges.now c.merges.merge-index c.merge-item.result c.merges-test.true c.merge-item.is c.join_merged.ensures
    ∙ c.merges.invariant

pub returns : goal.returns
returns c =
    sym (ap (names_after c.args.h c.merges.names) (drop_all c.merges.merge-index c.args.merges.now c.merges-test.false)) ∙ c.merges.invariant
