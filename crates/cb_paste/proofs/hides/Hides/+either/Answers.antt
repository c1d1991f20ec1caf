use Rattle.std.proofs.Common.{◌≡◌, ◌||◌, false, sym, ◌∙◌, ap, arith}
use Rattle.cb_paste.specs.Sets.{hides}
use Rattle.cb_paste.specs.inner.Nodes.{in_cell}
use Rattle.cb_paste.proofs.Arenas.{hides_none, over_more}
use Rattle.cb_paste.proofs.Nodes.{or_false}
use Rattle.cb_paste.proofs.Sides.{combined}
use Rattle.cb_paste.proofs.hides.Hides.+either.Goals as goal
use Rattle.cb_paste.proofs.hides.Hides.+either.Goals.{then-left, else-left}

pub returns-then-a-eq0-clause-places : goal.returns-then-a-eq0-clause-places
returns-then-a-eq0-clause-places t c = λ n.
    let none : hides c.args.self.now c.args.a n ≡ false = ap (λ s. hides c.args.self.now s n) c.if-a-eq0.true ∙ hides_none c.args.self.now n in
    sym (ap (λ v. v || hides c.args.self.now c.args.b n) none)

pub returns-then-b-eq0-clause-places : goal.returns-then-b-eq0-clause-places
returns-then-b-eq0-clause-places t c = λ n.
    let none : hides c.args.self.now c.args.b n ≡ false = ap (λ s. hides c.args.self.now s n) c.if-b-eq0.true ∙ hides_none c.args.self.now n in
    sym (ap (λ v. hides c.args.self.now c.args.a n || v) none ∙ or_false (hides c.args.self.now c.args.a n))

pub returns-clause-places : goal.returns-clause-places
returns-clause-places t c = λ n.
    let here : c.if-left.here ≡ (c.in-Fork.cell.here || c.in-Fork-node.cell.here) =
    elim c.if-left.branch [
      | then-left w ↦ w.here-is ∙ (w.if-left.true ∙ sym (ap (λ v. v || c.in-Fork-node.cell.here) w.if-left.true))
      | else-left w ↦ w.here-is ∙ sym (ap (λ v. v || c.in-Fork-node.cell.here) w.if-left.false)
    ] in
    c.in_ok-made.ensures.places n
    ∙ (ap (λ h. in_cell c.either-2.new.self (record { here = h; odd = c.in_ok-odd.odd; even = c.in_ok-even.even }) n) here
    ∙ (combined (λ x y. x || y) c.in_ok-odd.ensures.kept c.in_ok-even.ensures.kept c.in-Fork.cell c.in-Fork-node.cell
    (over_more _ _ _ (omega (arith, c.requires.first)) c.in-Fork.ensures.below) (over_more _ _ _ (omega (arith, c.requires.second)) c.in-Fork-node.ensures.below)
    c.in_ok-odd.odd c.in_ok-even.even c.in_ok-odd.ensures.within c.in_ok-odd.ensures.places c.in_ok-even.ensures.places n
    ∙ rw (← c.in-Fork.ensures.places n, ← c.in-Fork-node.ensures.places n)))
