use Rattle.std.proofs.Common.{◌≡◌, ◌+◌, ◌-◌, ◌^◌, ◌<◌, ℕ, List, min, length, take, drop, get_or, sym, ap, ◌∙◌, arith, suc, length-drop}
use Rattle.cb_lines.specs.declared.mark.Mark.{Mark}
use Rattle.cb_lines.specs.Marks.{bytes_of, is_line_feed}
use Rattle.cb_lines.specs.inner.Held.{feeds, marks_held}
use Rattle.cb_lines.proofs.Holding.{held-bytes, held-length, held-behind, feed, feeds_last, Rises-weaker}
use Rattle.cb_lines.proofs.walking.Walk.pass_row.Goals as goal

pub bounds-self-inside-count : goal.bounds-self-inside-count
bounds-self-inside-count c =
    omega (arith, held-length c.self.inside.line c.self.inside.at c.self.inside.bytes.now c.self.inside.splices.now, ap length c.self.view_is)

pub split_at-requires : goal.split_at-requires
split_at-requires c = omega (arith, held-length c.self.inside.line c.self.inside.at c.self.inside.bytes.now c.self.inside.splices.now, ap length c.self.view_is)

pub overflow_add-at : goal.overflow_add-at
overflow_add-at c =
    omega (arith, held-length c.self.inside.line c.self.inside.at c.self.inside.bytes.now c.self.inside.splices.now, ap length c.self.view_is, c.self.invariant.1)

pub past_splices-line-requires : goal.past_splices-line-requires
past_splices-line-requires c = Rises-weaker 0 (c.self.inside.at + 1) c.self.inside.splices.now (omega arith) c.self.invariant.0

pub invariant_of-self : goal.invariant_of-self
invariant_of-self c =
    (c.past_splices-line.ensures.rises, omega (arith, held-length c.self.inside.line c.self.inside.at c.self.inside.bytes.now c.self.inside.splices.now, ap length c.self.view_is, c.self.invariant.1, ap length c.split_at.ensures.back, length-drop c.args.count c.self.inside.bytes.now))

pub returns : goal.returns
returns c =
    let bytes : List ℕ = c.self.inside.bytes.now in
    let splices : List ℕ = c.self.inside.splices.now in
    let at : ℕ = c.self.inside.at in
    let line : ℕ = c.self.inside.line in
    let count : ℕ = c.args.count in
    let from : ℕ = c.line_behind-line.result in
    let held : bytes_of c.args.self.now ≡ bytes = sym (ap bytes_of c.self.view_is) ∙ held-bytes line at bytes splices in
    let within : count - 1 < length bytes = omega (arith, held-length line at bytes splices, ap length c.self.view_is) in
    let last : feeds (take (suc (count - 1)) bytes) ≡ feed (get_or bytes (count - 1) 0) =
    feeds_last (count - 1) bytes within (λ k h. ap (λ (bs : List ℕ). is_line_feed (get_or bs k 0)) (sym held) ∙ c.requires.plain k (omega arith)) in
    let one : suc (count - 1) ≡ count = omega arith in
    let e : from ≡ min (2 ^ 32 - 1) (line + feeds (take count bytes)) =
    c.line_behind-line.ensures ∙ (ap (λ (n : ℕ). min (2 ^ 32 - 1) (line + n)) (sym last) ∙ ap (λ (n : ℕ). min (2 ^ 32 - 1) (line + feeds (take n bytes))) one) in
    c.past_splices-line.ensures.same c.split_at.result.1.now
    ∙ (ap (λ (bs : List ℕ). marks_held from (at + count) bs splices) c.split_at.ensures.back
    ∙ (held-behind count line at bytes splices from e
    ∙ ap (λ (ms : List Mark). drop count ms) c.self.view_is))
