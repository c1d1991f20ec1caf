use Rattle.std.proofs.Common.{ℕ, Bool, eqb, ◌∷◌, [], ◌++◌, ◌+◌, sym, ap, ◌∙◌}
use Rattle.cb_cluster.specs.Names.{name_of as name_in}
use Rattle.cb_cluster.proofs.Listed.{filter_yes, filter_no, member_yes, member_no}
use Rattle.cb_cluster.proofs.clusters.members.Goals as goal
use Rattle.cb_cluster.proofs.clusters.members.Goals.{then-names-at+in_ok-push, else-names-at}

pub loop-at-preserved : goal.loop-at-preserved
loop-at-preserved c =
    let names = c.args.names.now in
    let at = c.loop-at.at in
    let p : ℕ → Bool = λ platform. eqb (name_in names platform) c.args.cluster in
    elim c.if-names-at.branch [
      | then-names-at+in_ok-push w ↦ rw w.held-is (w.in_ok-push.ensures.items ∙ ap (λ r. r ++ (at + 1) ∷ []) c.loop-at.invariant ∙ sym (filter_yes p at (member_yes names c.args.cluster at w.if-names-at.true)))
      | else-names-at w ↦ rw w.held-is (c.loop-at.invariant ∙ sym (filter_no p at (member_no names c.args.cluster at w.if-names-at.false)))
    ]
