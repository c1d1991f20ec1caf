use Rattle.std.proofs.Common.{◌≡◌, ℕ, ◌<◌, List, [], ◌∷◌, ◌++◌, length, sym, ap, ◌∙◌, subst}
use Rattle.std.proofs.lemmas.List.{length-map, append-nil, append_assoc, with_items_is}
use Rattle.std.proofs.lemmas.List.FromFn.{length-range_with_len}
use Rattle.std.specs.Vec.{with_items}
use Rattle.cb_diverge.specs.declared.fraction.Fraction.{Fraction}
use Rattle.cb_cluster.specs.declared.link.Link.{Link}
use Rattle.cb_cluster.specs.declared.merge.Merge.{Merge}
use Rattle.cb_cluster.specs.Names.{singles, joined, members}
use Rattle.cb_cluster.specs.Merging.{AreClosest, IsOneCluster, IsMerge, AreMerges}
use Rattle.cb_cluster.proofs.Joins.{renamed}
use Rattle.cb_cluster.proofs.Fewer.{open_links, fewer}
use Rattle.cb_cluster.proofs.merging.merges.Goals as goal

pub merging-init : goal.merging-init
merging-init c =
    let count = c.args.count in
    record {
      each = ap length c.in_ok-names.ensures ∙ length-range_with_len 1 count;
      follow = λ ms a. subst (λ (ns : List ℕ). AreMerges c.in_ok-links.links.items ns (c.new-held.result.items ++ ms)) c.in_ok-names.ensures
          (subst (λ (held : List Merge). AreMerges c.in_ok-links.links.items c.in_ok-names.names.items (held ++ ms)) (sym c.new-held.ensures.items) a);
    }

pub merging-smaller : goal.merging-smaller
merging-smaller c =
    let names = c.merging.names in
    let next = c.in-Some.next in
    let closest : AreClosest c.in_ok-links.links.items names.items next.left next.right next.height
    = subst (λ (ls : List Link). AreClosest ls names.items next.left next.right next.height) c.deref-in-merging.ensures.value
    (subst (λ (ns : List ℕ). AreClosest c.deref-in-merging.result.now ns next.left next.right next.height) c.deref.ensures.value c.in-Some.ensures) in
    let new : c.join.new.names ≡ joined names.items next.left next.right = c.join.ensures ∙ ap (λ ns. joined ns next.left next.right) c.deref_mut.ensures.value in
    let long : length c.join.new.names ≡ names.len = ap length c.join.ensures ∙ length-map c.deref_mut.result.now (renamed next.left next.right) ∙ c.deref_mut.ensures.len in
    subst (λ (ns : List ℕ). open_links ns c.in_ok-links.links.items < open_links names.items c.in_ok-links.links.items)
    (sym (with_items_is names c.join.new.names long ∙ new))
    (fewer names.items c.in_ok-links.links.items next.left next.right next.height closest)

pub merging-preserved : goal.merging-preserved
merging-preserved c =
    let count = c.args.count in
    let links = c.in_ok-links.links.items in
    let names = c.merging.names in
    let next = c.in-Some.next in
    let m = c.in_ok-merge_of.field-0 in
    let closest : AreClosest links names.items next.left next.right next.height
    = subst (λ (ls : List Link). AreClosest ls names.items next.left next.right next.height) c.deref-in-merging.ensures.value
    (subst (λ (ns : List ℕ). AreClosest c.deref-in-merging.result.now ns next.left next.right next.height) c.deref.ensures.value c.in-Some.ensures) in
    let new : c.join.new.names ≡ joined names.items next.left next.right = c.join.ensures ∙ ap (λ ns. joined ns next.left next.right) c.deref_mut.ensures.value in
    let long : length c.join.new.names ≡ names.len = ap length c.join.ensures ∙ length-map c.deref_mut.result.now (renamed next.left next.right) ∙ c.deref_mut.ensures.len in
    let same : (with_items names c.join.new.names).items ≡ joined names.items next.left next.right = with_items_is names c.join.new.names long ∙ new in
    let merge : IsMerge names.items next.left next.right m = (
      c.in_ok-merge_of.ensures.left ∙ ap (λ ns. members ns next.left) c.deref-in-Some.ensures.value,
      c.in_ok-merge_of.ensures.right ∙ ap (λ ns. members ns next.right) c.deref-in-Some.ensures.value,
    ) in
    let high : AreClosest links names.items next.left next.right m.height
    = subst (λ (h : Fraction). AreClosest links names.items next.left next.right h) (sym c.in_ok-merge_of.ensures.height) closest in
    record {
      each = ap length same ∙ (length-map names.items (renamed next.left next.right) ∙ c.merging.invariant.each);
      follow = λ ms a.
          let rest : AreMerges links (joined names.items next.left next.right) ms = subst (λ (ns : List ℕ). AreMerges links ns ms) same a in
          subst (λ (xs : List Merge). AreMerges links (singles count) xs)
          (sym (ap (λ (xs : List Merge). xs ++ ms) c.in_ok-push.ensures.items ∙ append_assoc c.merging.held.items (m ∷ []) ms))
          (c.merging.invariant.follow (m ∷ ms) (next.left, next.right, high, merge, rest));
    }

merges_end : (links : List Link) (names : List ℕ) (count : ℕ) (held : List Merge) → IsOneCluster links names
    → ((ms : List Merge) → AreMerges links names ms → AreMerges links (singles count) (held ++ ms)) → AreMerges links (singles count) held
merges_end links names count held one follow = subst (AreMerges links (singles count)) (append-nil held) (follow [] one)

pub returns : goal.returns
returns c =
    let count = c.args.count in
    let one : IsOneCluster c.in_ok-links.links.items c.merging.names.items
    = subst (λ (ls : List Link). IsOneCluster ls c.merging.names.items) c.deref-in-merging.ensures.value
    (subst (λ (ns : List ℕ). IsOneCluster c.deref-in-merging.result.now ns) c.deref.ensures.value c.in_default.ensures) in
    let ends = merges_end c.in_ok-links.links.items c.merging.names.items count c.merging.held.items one c.merging.invariant.follow in
    subst (λ (ls : List Link). AreMerges ls (singles count) c.from_vec.result) c.in_ok-links.ensures.links
    (subst (AreMerges c.in_ok-links.links.items (singles count)) (sym c.from_vec.ensures) ends)
