use Rattle.std.proofs.Common.{◌≡◌, ◌+◌, ◌^◌, ◌<◌, ◌≤◌, ℕ, List, length, take, get_or, sym, ap, ◌∙◌, arith}
use Rattle.std.proofs.lemmas.List.{get_or-take, length-take}
use Rattle.cb_lines.specs.declared.mark.Mark.{Mark}
use Rattle.cb_lines.specs.Lines.{with_line, with_lines}
use Rattle.cb_lines.specs.Marks.{bytes_of, first_line, is_line_feed}
use Rattle.cb_lines.specs.inner.Held.{marks_held}
use Rattle.cb_lines.proofs.Holding.{held-bytes, held-length, held-first, one_line, Rises-weaker}
use Rattle.cb_lines.proofs.walking.Walk.row_len.Goals as goal

pub split_at-requires : goal.split_at-requires
split_at-requires c = omega (arith, held-length c.self.inside.line c.self.inside.at c.self.inside.bytes.now c.self.inside.splices.now, ap length c.self.view_is)

pub returns-clause-one_line : goal.returns-clause-one_line
returns-clause-one_line c = λ set.
    let line : ℕ = c.self.inside.line in
    let at : ℕ = c.self.inside.at in
    let bytes : List ℕ = c.self.inside.bytes.now in
    let splices : List ℕ = c.self.inside.splices.now in
    let reach : ℕ = c.marks_to_splice-reach.result in
    let n : ℕ = c.bytes_to_feed.result in
    let len = held-length line at bytes splices in
    let now = ap length c.self.view_is in
    let small : line < 2 ^ 32 = omega arith in
    let fits : n ≤ reach = omega (arith, ap length c.split_at.ensures.front, length-take reach bytes, c.bytes_to_feed.ensures.within.1) in
    let within : n ≤ length bytes = omega (arith, ap length c.split_at.ensures.front, length-take reach bytes, c.bytes_to_feed.ensures.within.1) in
    let full : 0 < length (marks_held line at bytes splices) = omega (arith, len, c.bytes_to_feed.ensures.within.0) in
    let first : line ≡ first_line c.args.self.now = held-first line at bytes splices full small c.self.invariant.0 ∙ ap first_line c.self.view_is in
    let plain = λ (k : ℕ) (h : k + 1 < n).
    let kr : k < reach = omega arith in
    ap is_line_feed (sym (get_or-take reach bytes k 0 kr) ∙ ap (λ (bs : List ℕ). get_or bs k 0) (sym c.split_at.ensures.front)) ∙ c.bytes_to_feed.ensures.plain k h in
    ap (λ (ms : List Mark). with_lines (take n ms) set) (sym c.self.view_is)
    ∙ (one_line n line at bytes splices c.bytes_to_feed.ensures.within.0 within small (Rises-weaker (at + n) (at + reach) splices (omega arith) c.marks_to_splice-reach.ensures.before) plain set
    ∙ ap (λ (l : ℕ). with_line l set) first)

pub returns-clause-plain : goal.returns-clause-plain
returns-clause-plain c = λ k h.
    let reach : ℕ = c.marks_to_splice-reach.result in
    let bytes : List ℕ = c.self.inside.bytes.now in
    let kr : k < reach = omega (arith, ap length c.split_at.ensures.front, length-take reach bytes, c.bytes_to_feed.ensures.within.1) in
    ap (λ (bs : List ℕ). is_line_feed (get_or bs k 0)) (sym (ap bytes_of c.self.view_is) ∙ held-bytes c.self.inside.line c.self.inside.at bytes c.self.inside.splices.now)
    ∙ (ap is_line_feed (sym (get_or-take reach bytes k 0 kr) ∙ ap (λ (bs : List ℕ). get_or bs k 0) (sym c.split_at.ensures.front)) ∙ c.bytes_to_feed.ensures.plain k h)
