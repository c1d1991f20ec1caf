use Rattle.std.proofs.Common.{◌≡◌, ◌+◌, ◌-◌, ◌^◌, ◌<◌, ◌≤◌, ℕ, min, List, length, get_or, take, drop, sym, ap, ◌∙◌, subst, arith}
use Rattle.std.proofs.lemmas.List.{get_or-take, length-take-le}
use Rattle.cb_lines.specs.declared.mark.Mark.{Mark}
use Rattle.cb_lines.specs.Lines.{StandOn}
use Rattle.cb_lines.specs.Marks.{bytes_of, first_line, is_line_feed}
use Rattle.cb_lines.specs.inner.Held.{marks_held, passed, Rises}
use Rattle.cb_lines.proofs.Holding.{feed, held-bytes, held-length, held-first, held_on_line, Rises-weaker, splice_behind}
use Rattle.cb_lines.proofs.walking.Walk.row.Goals as goal

pub returns-clause-within : goal.returns-clause-within
returns-clause-within c =
    let n : ℕ = c.marks_to_splice.result in
    let bytes : List ℕ = c.self.inside.bytes.now in
    omega (arith, length-take-le n bytes c.marks_to_splice.ensures.within.1, held-length c.self.inside.line c.self.inside.at bytes c.self.inside.splices.now, ap length c.self.view_is)

pub returns-clause-front : goal.returns-clause-front
returns-clause-front c =
    let n : ℕ = c.marks_to_splice.result in
    let bytes : List ℕ = c.self.inside.bytes.now in
    ap (λ (bs : List ℕ). take n bs) (sym (held-bytes c.self.inside.line c.self.inside.at bytes c.self.inside.splices.now) ∙ ap bytes_of c.self.view_is)
    ∙ ap (λ (k : ℕ). take k (bytes_of c.args.self.now)) (sym (length-take-le n bytes c.marks_to_splice.ensures.within.1))

pub returns-clause-one_line : goal.returns-clause-one_line
returns-clause-one_line c = λ count within plain.
    let line : ℕ = c.self.inside.line in
    let at : ℕ = c.self.inside.at in
    let bytes : List ℕ = c.self.inside.bytes.now in
    let splices : List ℕ = c.self.inside.splices.now in
    let n : ℕ = c.marks_to_splice.result in
    let len : length (take n bytes) ≡ n = length-take-le n bytes c.marks_to_splice.ensures.within.1 in
    let fits : count ≤ n = omega arith in
    let small : line < 2 ^ 32 = omega arith in
    let first : line ≡ first_line c.args.self.now = held-first line at bytes splices (omega (arith, held-length line at bytes splices)) small c.self.invariant.0 ∙ ap first_line c.self.view_is in
    subst (λ (ms : List Mark). StandOn (first_line c.args.self.now) (take count ms)) c.self.view_is
    (subst (λ (l : ℕ). StandOn l (take count (marks_held line at bytes splices))) first
    (held_on_line count line at bytes splices (omega arith) small (Rises-weaker (at + count) (at + n) splices (omega arith) c.marks_to_splice.ensures.before)
    (λ k h. let kn : k < n = omega arith in ap is_line_feed (sym (get_or-take n bytes k 0 kn)) ∙ plain k h)))

pub returns-clause-whole : goal.returns-clause-whole
returns-clause-whole c = λ count is more.
    let line : ℕ = c.self.inside.line in
    let at : ℕ = c.self.inside.at in
    let bytes : List ℕ = c.self.inside.bytes.now in
    let splices : List ℕ = c.self.inside.splices.now in
    let n : ℕ = c.marks_to_splice.result in
    let len : length (take n bytes) ≡ n = length-take-le n bytes c.marks_to_splice.ensures.within.1 in
    let end : n ≡ count + 1 = omega arith in
    let all : length (marks_held line at bytes splices) ≡ length c.args.self.now = ap length c.self.view_is in
    let within : count + 1 < length bytes = omega (arith, held-length line at bytes splices, all) in
    let short : n < length bytes = omega arith in
    let byte : get_or (take n bytes) count 0 ≡ get_or bytes count 0 = get_or-take n bytes count 0 (omega arith) in
    let spliced : passed (at + (count + 1)) splices ≡ 0 → ⊥ = subst (λ (k : ℕ). passed (at + k) splices ≡ 0 → ⊥) end (c.marks_to_splice.ensures.whole short) in
    let rises : Rises (at + (count + 1)) splices = subst (λ (k : ℕ). Rises (at + k) splices) end c.marks_to_splice.ensures.before in
    let behind = splice_behind count line at bytes splices within rises spliced in
    subst (λ (ms : List Mark). min (2 ^ 32 - 1) (first_line (drop count ms) + feed (get_or (take n bytes) count 0) + 1) ≤ first_line (drop (count + 1) ms)) c.self.view_is
    (subst (λ (b : ℕ). min (2 ^ 32 - 1) (first_line (drop count (marks_held line at bytes splices)) + feed b + 1) ≤ first_line (drop (count + 1) (marks_held line at bytes splices))) (sym byte) behind)
