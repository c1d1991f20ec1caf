use Rattle.std.proofs.Common.{◌≡◌, ◌+◌, ◌-◌, ◌^◌, ℕ, List, min, length, take, drop, ap, ◌∙◌, arith, length-drop}
use Rattle.cb_lines.specs.declared.mark.Mark.{Mark}
use Rattle.cb_lines.specs.inner.Held.{feeds, marks_held}
use Rattle.cb_lines.proofs.Holding.{held-length, held-behind, Rises-weaker}
use Rattle.cb_lines.proofs.walking.Walk.pass.Goals as goal

pub split_at-requires : goal.split_at-requires
split_at-requires c = omega (arith, held-length c.self.inside.line c.self.inside.at c.self.inside.bytes.now c.self.inside.splices.now, ap length c.self.view_is)

pub overflow_add-at : goal.overflow_add-at
overflow_add-at c =
    omega (arith, held-length c.self.inside.line c.self.inside.at c.self.inside.bytes.now c.self.inside.splices.now, ap length c.self.view_is, c.self.invariant.1)

pub past_splices-line-requires : goal.past_splices-line-requires
past_splices-line-requires c = Rises-weaker 0 (c.self.inside.at + 1) c.self.inside.splices.now (omega arith) c.self.invariant.0

pub invariant_of-self : goal.invariant_of-self
invariant_of-self c =
    (c.past_splices-line.ensures.rises, omega (arith, held-length c.self.inside.line c.self.inside.at c.self.inside.bytes.now c.self.inside.splices.now, ap length c.self.view_is, c.self.invariant.1, ap length c.split_at.ensures.back, length-drop c.args.count c.self.inside.bytes.now))

pub returns : goal.returns
returns c =
    let bytes : List ℕ = c.self.inside.bytes.now in
    let splices : List ℕ = c.self.inside.splices.now in
    let at : ℕ = c.self.inside.at in
    let count : ℕ = c.args.count in
    let from : ℕ = c.line_behind_all.result in
    let e : from ≡ min (2 ^ 32 - 1) (c.self.inside.line + feeds (take count bytes)) = c.line_behind_all.ensures ∙ ap (λ (bs : List ℕ). min (2 ^ 32 - 1) (c.self.inside.line + feeds bs)) c.split_at.ensures.front in
    c.past_splices-line.ensures.same c.split_at.result.1.now
    ∙ (ap (λ (bs : List ℕ). marks_held from (at + count) bs splices) c.split_at.ensures.back
    ∙ (held-behind count c.self.inside.line at bytes splices from e
    ∙ ap (λ (ms : List Mark). drop count ms) c.self.view_is))
