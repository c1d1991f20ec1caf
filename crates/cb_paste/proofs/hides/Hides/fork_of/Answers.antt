use Rattle.std.proofs.Common.{sym, subst, ◌∙◌, ap, arith, length}
use Rattle.cb_paste.specs.inner.Nodes.{in_cell, IsOver}
use Rattle.cb_paste.proofs.Sides.{zero_alone, place_alone, with_side_over}
use Rattle.cb_paste.proofs.hides.Hides.fork_of.Goals as goal

pub returns-then-place-eq0-clause-places : goal.returns-then-place-eq0-clause-places
returns-then-place-eq0-clause-places c = λ n. zero_alone c.args.self.now c.args.place n c.if-place-eq0.true

pub returns-clause-places : goal.returns-clause-places
returns-clause-places c = λ n.
    ap (λ d. in_cell c.push.new.self d n) c.with_side.ensures
    ∙ place_alone c.in_ok-below.ensures.kept c.args.place c.in_ok-below.below c.if-place-eq0.false c.in_ok-below.ensures.places n

pub returns-clause-over : goal.returns-clause-over
returns-clause-over c =
    subst (λ d. IsOver (length c.push.new.self) d) (sym c.with_side.ensures)
    (with_side_over (length c.push.new.self) _ c.args.place c.in_ok-below.below (record { odd = omega arith; even = omega arith }) c.in_ok-below.ensures.within)
