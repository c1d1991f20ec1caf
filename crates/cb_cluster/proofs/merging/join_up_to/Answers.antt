use Rattle.std.proofs.Common.{ℕ, ◌<◌, List, length, sym, ap, ◌∙◌, subst, refl}
use Rattle.std.proofs.lemmas.List.{length-map}
use Rattle.cb_cluster.specs.Links.{IsPair}
use Rattle.std.specs.List.{All}
use Rattle.cb_cluster.proofs.Joins.{IsGood, IsGood-singles, IsGood-joined, bridge_of, renamed, AreWithin-all, AreWithin-beyond, beyond_closest, class_names}
use Rattle.cb_cluster.proofs.Fewer.{open_links, fewer}
use Rattle.cb_cluster.proofs.merging.join_up_to.Goals as goal

pub joining-init : goal.joining-init
joining-init c = record {
  each = refl;
  good = subst (λ (ns : List ℕ). IsGood c.args.links.now c.args.h ns) (sym c.requires.singles) (IsGood-singles c.args.links.now c.args.h (length c.args.names.now));
}

pub returns-then-less : goal.returns-then-less
returns-then-less c =
    let next = c.in-Some.next in
    class_names c.args.links.now c.args.h c.joining.names (length c.args.names.now) c.joining.invariant.each c.joining.invariant.good
    (AreWithin-beyond c.args.links.now c.args.h c.joining.names
    (beyond_closest c.args.links.now c.args.h c.joining.names next.left next.right next.height c.in-Some.ensures (sym c.less.ensures ∙ c.if-less.true)))

pub joining-smaller : goal.joining-smaller
joining-smaller c =
    let next = c.in-Some.next in
    subst (λ (ns : List ℕ). open_links ns c.args.links.now < open_links c.joining.names c.args.links.now) (sym c.join.ensures)
    (fewer c.joining.names c.args.links.now next.left next.right next.height c.in-Some.ensures)

pub joining-preserved : goal.joining-preserved
joining-preserved c =
    let next = c.in-Some.next in
    let names = c.joining.names in
    let pairs : All (IsPair (length names)) c.args.links.now = subst (λ (n : ℕ). All (IsPair n) c.args.links.now) (sym c.joining.invariant.each) c.requires.pairs in
    record {
      each = ap length c.join.ensures ∙ (length-map names (renamed next.left next.right) ∙ c.joining.invariant.each);
      good = subst (λ (ns : List ℕ). IsGood c.args.links.now c.args.h ns) (sym c.join.ensures)
          (IsGood-joined c.args.links.now c.args.h names next.left next.right c.in-Some.ensures.apart c.joining.invariant.good
          (bridge_of c.args.links.now c.args.h names next.left next.right next.height pairs c.in-Some.ensures.distance (sym c.less.ensures ∙ c.if-less.false)));
    }

pub returns : goal.returns
returns c =
    class_names c.args.links.now c.args.h c.joining.names (length c.args.names.now) c.joining.invariant.each c.joining.invariant.good
    (AreWithin-all c.args.links.now c.args.h c.joining.names c.in_default.ensures)
