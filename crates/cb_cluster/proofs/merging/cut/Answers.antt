use Rattle.std.proofs.Common.{◌≡◌, ℕ, List, length, sym, ap, ◌∙◌, subst, arith}
use Rattle.std.specs.List.{All}
use Rattle.std.proofs.lemmas.List.FromFn.{length-range_with_len}
use Rattle.cb_cluster.specs.declared.link.Link.{Link}
use Rattle.cb_cluster.specs.Links.{IsPair, links_of}
use Rattle.cb_cluster.specs.Names.{singles, clusters_of}
use Rattle.cb_cluster.specs.Chains.{AreClassNames, AreClasses}
use Rattle.std.proofs.lemmas.Result.{IfOk-weaker}
use Rattle.std.proofs.lemmas.List.{take_at}
use Rattle.cb_cluster.proofs.merging.cut.Goals as goal

pub join_up_to-requires-clause-pairs : goal.join_up_to-requires-clause-pairs
join_up_to-requires-clause-pairs c =
    let count = c.args.count in
    let n : length c.deref_mut.result.now ≡ count = ap length (c.deref_mut.ensures.value ∙ c.in_ok-names.ensures) ∙ length-range_with_len 1 count in
    subst (λ (ls : List Link). All (IsPair (length c.deref_mut.result.now)) ls) (sym c.deref.ensures.value)
    (subst (λ (m : ℕ). All (IsPair m) c.in_ok-links.links.items) (sym n) c.in_ok-links.ensures.pairs)

pub join_up_to-requires-clause-singles : goal.join_up_to-requires-clause-singles
join_up_to-requires-clause-singles c =
    let count = c.args.count in
    let e : c.deref_mut.result.now ≡ singles count = c.deref_mut.ensures.value ∙ c.in_ok-names.ensures in
    e ∙ ap singles (sym (ap length e ∙ length-range_with_len 1 count))

pub clusters-requires : goal.clusters-requires
clusters-requires c =
    let count = c.args.count in
    let n : length c.deref_mut.result.now ≡ count = ap length (c.deref_mut.ensures.value ∙ c.in_ok-names.ensures) ∙ length-range_with_len 1 count in
    omega (arith, c.deref-2.ensures.len, c.deref_mut.ensures.len, n, c.ranges.count)

pub returns : goal.returns
returns c =
    let count = c.args.count in
    let new = c.join_up_to.new.names in
    let n : length c.deref_mut.result.now ≡ count = ap length (c.deref_mut.ensures.value ∙ c.in_ok-names.ensures) ∙ length-range_with_len 1 count in
    let value : c.deref-2.result.now ≡ new = c.deref-2.ensures.value ∙ take_at new _ c.in_ok-names.names.len (c.join_up_to.ensures.each ∙ c.deref_mut.ensures.len) in
    let links : c.deref.result.now ≡ links_of count c.args.pairs.now = c.deref.ensures.value ∙ c.in_ok-links.ensures.links in
    let names : AreClassNames (links_of count c.args.pairs.now) count c.args.h new
    = subst (λ (ls : List Link). AreClassNames ls count c.args.h new) links
    (subst (λ (m : ℕ). AreClassNames c.deref.result.now m c.args.h new) n c.join_up_to.ensures) in
    IfOk-weaker c.clusters.result (λ classes. classes ≡ clusters_of c.deref-2.result.now) (AreClasses (links_of count c.args.pairs.now) count c.args.h)
    (λ classes e. (new, names, e ∙ ap clusters_of value)) c.clusters.ensures
