use Rattle.std.proofs.Common.{◌≡◌, ◌&&◌, sym, ◌∙◌, ap, arith}
use Rattle.std.proofs.lemmas.Bool.{and_left, and_right}
use Rattle.cb_paste.specs.Sets.{hides}
use Rattle.cb_paste.specs.inner.Nodes.{in_cell}
use Rattle.cb_paste.proofs.Arenas.{hides_none, over_more}
use Rattle.cb_paste.proofs.Sides.{combined}
use Rattle.cb_paste.proofs.hides.Hides.+both.Goals as goal
use Rattle.cb_paste.proofs.hides.Hides.+both.Goals.{then-left, else-left, then-a-eq0-via-then-a-eq0, then-a-eq0-via-else-a-eq0+then-b-eq0}

pub returns-then-a-eq0-clause-places : goal.returns-then-a-eq0-clause-places
returns-then-a-eq0-clause-places t c = λ n.
    hides_none c.args.self.now n
    ∙ elim c.then-a-eq0.branch [
      | then-a-eq0-via-then-a-eq0 w ↦ sym (and_left _ _ (ap (λ s. hides c.args.self.now s n) w.if-a-eq0.true ∙ hides_none c.args.self.now n))
      | then-a-eq0-via-else-a-eq0+then-b-eq0 w ↦ sym (and_right _ _ (ap (λ s. hides c.args.self.now s n) w.if-b-eq0.true ∙ hides_none c.args.self.now n))
    ]

pub returns-clause-places : goal.returns-clause-places
returns-clause-places t c = λ n.
    let here : c.if-left.here ≡ (c.in-Fork.cell.here && c.in-Fork-node.cell.here) =
    elim c.if-left.branch [
      | then-left w ↦ w.here-is ∙ sym (ap (λ v. v && c.in-Fork-node.cell.here) w.if-left.true)
      | else-left w ↦ w.here-is ∙ (w.if-left.false ∙ sym (ap (λ v. v && c.in-Fork-node.cell.here) w.if-left.false))
    ] in
    c.in_ok-made.ensures.places n
    ∙ (ap (λ h. in_cell c.both-2.new.self (record { here = h; odd = c.in_ok-odd.odd; even = c.in_ok-even.even }) n) here
    ∙ (combined (λ x y. x && y) c.in_ok-odd.ensures.kept c.in_ok-even.ensures.kept c.in-Fork.cell c.in-Fork-node.cell
    (over_more _ _ _ (omega (arith, c.requires.first)) c.in-Fork.ensures.below) (over_more _ _ _ (omega (arith, c.requires.second)) c.in-Fork-node.ensures.below)
    c.in_ok-odd.odd c.in_ok-even.even c.in_ok-odd.ensures.within c.in_ok-odd.ensures.places c.in_ok-even.ensures.places n
    ∙ rw (← c.in-Fork.ensures.places n, ← c.in-Fork-node.ensures.places n)))
