use Rattle.std.proofs.Common.{◌==◌, ◌||◌, ◌/◌, ◌-◌, sym, subst, ◌∙◌, ap, arith, length}
use Rattle.cb_paste.specs.Sets.{hides}
use Rattle.cb_paste.specs.inner.Nodes.{in_cell, IsOver}
use Rattle.cb_paste.proofs.Arenas.{hides_none, side_le, extends_length, over_more}
use Rattle.cb_paste.proofs.Nodes.{or_false}
use Rattle.cb_paste.proofs.Sides.{zero_has, with_has, with_side_over, or_self}
use Rattle.cb_paste.proofs.hides.Hides.+with.Goals as goal

pub returns-then-set-eq0-clause-places : goal.returns-then-set-eq0-clause-places
returns-then-set-eq0-clause-places t c = λ n.
    c.in_ok-one.ensures.places n
    ∙ sym (ap (λ v. (n == c.args.place) || v) (ap (λ s. hides c.args.self.now s n) c.if-set-eq0.true ∙ hides_none c.args.self.now n) ∙ or_false (n == c.args.place))

pub returns-then-is_one-clause-places : goal.returns-then-is_one-clause-places
returns-then-is_one-clause-places t c = λ n.
    sym (ap (λ v. v || hides c.args.self.now c.args.set n) (sym (c.is_one.ensures c.if-is_one.true n)) ∙ or_self (hides c.args.self.now c.args.set n))

pub with-requires : goal.with-requires
with-requires t c = (omega (arith, c.decreases), omega (arith, c.side.ensures, side_le c.in_ok-cell.cell (length c.opened.new.self) c.args.place c.in_ok-cell.ensures.over))

pub made-requires-2-clause-over : goal.made-requires-2-clause-over
made-requires-2-clause-over t c =
    subst (λ d. IsOver (length c.with.new.self) d) (sym c.with_side.ensures)
    (with_side_over (length c.with.new.self) c.in_ok-cell.cell c.args.place c.in_ok-below.below
    (over_more _ _ _ (extends_length c.in_ok-below.ensures.kept) c.in_ok-cell.ensures.over) c.in_ok-below.ensures.within)

pub returns-clause-places : goal.returns-clause-places
returns-clause-places t c = λ n.
    c.in_ok-made-2.ensures.places n
    ∙ (ap (λ d. in_cell c.with.new.self d n) c.with_side.ensures
    ∙ (with_has c.in_ok-below.ensures.kept c.in_ok-cell.cell c.in_ok-cell.ensures.over c.args.place c.in_ok-below.below c.if-place-eq0.false
    (λ k. c.in_ok-below.ensures.places k ∙ ap (λ s. (k == (c.args.place - 1) / 2) || hides c.opened.new.self s k) c.side.ensures) n
    ∙ ap (λ v. (n == c.args.place) || v) (c.in_ok-cell.ensures.places n)))

pub returns-then-place-eq0-clause-places : goal.returns-then-place-eq0-clause-places
returns-then-place-eq0-clause-places t c = λ n.
    c.in_ok-made.ensures.places n
    ∙ (zero_has c.opened.new.self c.in_ok-cell.cell c.args.place n c.if-place-eq0.true
    ∙ ap (λ v. (n == c.args.place) || v) (c.in_ok-cell.ensures.places n))
