use Rattle.std.proofs.Common.{◌≡◌, ◌^◌, ◌<◌, ◌≤◌, ℕ, List, length, take, get_or, sym, ap, ◌∙◌, arith}
use Rattle.cb_lines.specs.declared.mark.Mark.{Mark}
use Rattle.cb_lines.specs.Lines.{with_line, with_lines}
use Rattle.cb_lines.specs.Marks.{bytes_of, first_line, is_line_feed}
use Rattle.cb_lines.specs.inner.Held.{marks_held}
use Rattle.cb_lines.proofs.Holding.{held-bytes, held-length, held-first, one_line}
use Rattle.cb_lines.proofs.walking.Walk.plain_row_len.Goals as goal

pub returns-clause-one_line : goal.returns-clause-one_line
returns-clause-one_line c = λ set.
    let line : ℕ = c.self.inside.line in
    let at : ℕ = c.self.inside.at in
    let bytes : List ℕ = c.self.inside.bytes.now in
    let splices : List ℕ = c.self.inside.splices.now in
    let n : ℕ = c.marks_to_splice.result in
    let len = held-length line at bytes splices in
    let now = ap length c.self.view_is in
    let small : line < 2 ^ 32 = omega arith in
    let within : n ≤ length bytes = omega (arith, c.marks_to_splice.ensures.within.1) in
    let full : 0 < length (marks_held line at bytes splices) = omega (arith, len, c.marks_to_splice.ensures.within.0) in
    let first : line ≡ first_line c.args.self.now = held-first line at bytes splices full small c.self.invariant.0 ∙ ap first_line c.self.view_is in
    let held : bytes_of c.args.self.now ≡ bytes = sym (ap bytes_of c.self.view_is) ∙ held-bytes line at bytes splices in
    ap (λ (ms : List Mark). with_lines (take n ms) set) (sym c.self.view_is)
    ∙ (one_line n line at bytes splices c.marks_to_splice.ensures.within.0 within small c.marks_to_splice.ensures.before
    (λ k h. ap (λ (bs : List ℕ). is_line_feed (get_or bs k 0)) (sym held) ∙ c.requires.plain k (omega (arith, c.marks_to_splice.ensures.within.1))) set
    ∙ ap (λ (l : ℕ). with_line l set) first)
