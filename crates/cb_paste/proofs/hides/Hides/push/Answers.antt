use Rattle.std.proofs.Common.{◌≡◌, ◌+◌, sym, subst, arith, ap, length}
use Rattle.std.proofs.lemmas.List.{length_push}
use Rattle.cb_paste.specs.inner.Nodes.{IsNodeOver}
use Rattle.cb_paste.proofs.Nodes.{push_has, push_extends, nodes_push, length_sets}
use Rattle.cb_paste.proofs.hides.Hides.push.Goals as goal

pub invariant_of-self-2 : goal.invariant_of-self-2
invariant_of-self-2 c =
    rw c.in_ok-push.ensures.items
    (nodes_push c.self.inside.nodes.items c.args.node c.self.invariant (subst (λ sets. IsNodeOver (length sets) c.args.node) (sym c.self.view_is) c.requires))

pub returns-clause-places : goal.returns-clause-places
returns-clause-places c = λ n.
    let len : c.len-2.result ≡ length c.self.inside.nodes.items + 1 = omega (arith, ap length c.in_ok-push.ensures.items, length_push c.self.inside.nodes.items c.args.node) in
    rw (c.in_ok-push.ensures.items, ← c.self.view_is) (push_has c.self.inside.nodes.items c.args.node c.len-2.result len n)

pub returns-clause-within : goal.returns-clause-within
returns-clause-within c = omega (arith, length_sets c.push.new.self.items)

pub returns-clause-kept : goal.returns-clause-kept
returns-clause-kept c =
    rw (c.in_ok-push.ensures.items, ← c.self.view_is) (push_extends c.self.inside.nodes.items c.args.node)
