use Rattle.std.proofs.Common.{ℕ, Bool, eqb, List, map, filter, ◌∷◌, [], ◌++◌, ◌+◌, sym, ap, ◌∙◌}
use Rattle.std.specs.List.{range_with_len}
use Rattle.std.proofs.lemmas.List.{map-append}
use Rattle.cb_cluster.specs.Names.{name_of as name_in, members as members_of}
use Rattle.cb_cluster.proofs.Listed.{filter_yes, filter_no, member_yes, member_no}
use Rattle.cb_cluster.proofs.clusters.clusters.Goals as goal
use Rattle.cb_cluster.proofs.clusters.clusters.Goals.{then-names-at+in_ok-members+in_ok-push, else-names-at}

pub loop-at-preserved : goal.loop-at-preserved
loop-at-preserved c =
    let names = c.args.names.now in
    let at = c.loop-at.at in
    let p : ℕ → Bool = λ platform. eqb (name_in names platform) platform in
    let so_far = filter p (range_with_len 1 at) in
    elim c.if-names-at.branch [
      | then-names-at+in_ok-members+in_ok-push w ↦ rw w.held-is
          (w.in_ok-push.ensures.items
          ∙ ap (λ (m : List ℕ). c.loop-at.held.items ++ m ∷ []) w.in_ok-members.ensures
          ∙ ap (λ (r : List (List ℕ)). r ++ members_of names (at + 1) ∷ []) c.loop-at.invariant
          ∙ sym (ap (map (members_of names)) (filter_yes p at (member_yes names (at + 1) at w.if-names-at.true)) ∙ map-append (members_of names) so_far ((at + 1) ∷ [])))
      | else-names-at w ↦ rw w.held-is
          (c.loop-at.invariant ∙ sym (ap (map (members_of names)) (filter_no p at (member_no names (at + 1) at w.if-names-at.false))))
    ]
