use Rattle.std.proofs.Common.{◌-◌, ◌/◌, sym, ◌∙◌, arith, ap}
use Rattle.cb_paste.specs.Sets.{hides}
use Rattle.cb_paste.proofs.Arenas.{hides_none, side_le}
use Rattle.cb_paste.proofs.Sides.{in_cell_here, in_cell_side}
use Rattle.cb_paste.proofs.hides.Hides.has.Goals as goal

pub returns-then-rest-eq0 : goal.returns-then-rest-eq0
returns-then-rest-eq0 c =
    sym (in_cell_here c.args.self.now c.in-Fork.cell c.nodes.rest c.if-rest-eq0.true)
    ∙ (sym (c.in-Fork.ensures.places c.nodes.rest) ∙ c.nodes.invariant.same)

pub nodes-smaller : goal.nodes-smaller
nodes-smaller c =
    omega (arith, c.side-node.ensures, side_le c.in-Fork.cell (c.nodes.node - 1) c.nodes.rest c.in-Fork.ensures.below)

pub nodes-preserved : goal.nodes-preserved
nodes-preserved c = record {
  within = omega (arith, c.side-node.ensures, side_le c.in-Fork.cell (c.nodes.node - 1) c.nodes.rest c.in-Fork.ensures.below);
  same = ap (λ s. hides c.args.self.now s ((c.nodes.rest - 1) / 2)) c.side-node.ensures
      ∙ (sym (in_cell_side c.args.self.now c.in-Fork.cell c.nodes.rest c.if-rest-eq0.false)
      ∙ (sym (c.in-Fork.ensures.places c.nodes.rest) ∙ c.nodes.invariant.same));
}

pub returns : goal.returns
returns c =
    sym (hides_none c.args.self.now c.nodes.rest)
    ∙ (ap (λ s. hides c.args.self.now s c.nodes.rest) (sym c.nodes-test.false) ∙ c.nodes.invariant.same)
