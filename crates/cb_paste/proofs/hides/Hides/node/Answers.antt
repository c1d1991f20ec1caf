use Rattle.std.proofs.Common.{◌≡◌, length, subst, arith, ap}
use Rattle.cb_paste.specs.Sets.{hides}
use Rattle.cb_paste.specs.inner.Nodes.{in_node}
use Rattle.cb_paste.proofs.Nodes.{node_has, node_over, length_sets}
use Rattle.cb_paste.proofs.hides.Hides.node.Goals as goal

pub index-requires : goal.index-requires
index-requires c = omega (arith, length_sets c.self.inside.nodes.items, ap length c.self.view_is, c.requires.some, c.requires.within)

pub returns-clause-places : goal.returns-clause-places
returns-clause-places c = λ n.
    subst (λ sets. hides sets c.args.set n ≡ in_node sets c.index.result.now n) c.self.view_is
    (node_has c.self.inside.nodes.items c.args.set c.index.result.now c.self.invariant (λ z. omega (arith, z, c.requires.some)) (omega (arith, ap length c.self.view_is, c.requires.within)) c.index.ensures n)

pub returns-clause-below : goal.returns-clause-below
returns-clause-below c =
    node_over c.self.inside.nodes.items c.args.set c.index.result.now c.self.invariant (λ z. omega (arith, z, c.requires.some)) (omega (arith, ap length c.self.view_is, c.requires.within)) c.index.ensures
