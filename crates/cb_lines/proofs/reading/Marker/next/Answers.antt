use Rattle.std.proofs.Common.{◌≡◌, ℕ, ◌+◌, ◌-◌, ◌^◌, ◌<◌, ◌≤◌, List, ◌∷◌, length, min, cond, sym, ap, ◌∙◌, subst, arith}
use Rattle.cb_lines.specs.declared.mark.Mark.{Mark}
use Rattle.cb_lines.specs.Marks.{byte_at, is_line_feed, line_at, marks_from}
use Rattle.cb_lines.proofs.Positions.{marks_from-taken, marks_from-stays, marks_from-end, line_at-more}
use Rattle.cb_lines.proofs.reading.Marker.next.Goals as goal

-- the line one position on
next_line : (source : List ℕ) (i line next : ℕ) → i < length source → line ≡ line_at source i → next ≡ min (2 ^ 32 - 1) (line + cond (is_line_feed (byte_at source i)) 1 0) → next ≡ line_at source (i + 1)
next_line source i line next h e f =
    f ∙ (ap (λ (n : ℕ). min (2 ^ 32 - 1) (n + cond (is_line_feed (byte_at source i)) 1 0)) e ∙ sym (line_at-more source i h))

pub invariant_of-self : goal.invariant_of-self
invariant_of-self c =
    let source : List ℕ = c.self.inside.source.now in
    let inv = c.positions.invariant in
    subst (λ (s : List ℕ). (c.positions.at + 1 ≤ length s) × (c.line_behind-line.result ≡ line_at s (c.positions.at + 1))) (sym inv.same)
    (omega arith, next_line source c.positions.at c.positions.line c.line_behind-line.result c.positions-test.true inv.line c.line_behind-line.ensures)

pub returns-then-not-is_taken_away-clause-mark : goal.returns-then-not-is_taken_away-clause-mark
returns-then-not-is_taken_away-clause-mark c =
    let source : List ℕ = c.self.inside.source.now in
    let inv = c.positions.invariant in
    let mark : ℕ → Mark = λ line. record { byte = byte_at source c.positions.at; line = line } in
    sym c.self.view_is
    ∙ (sym inv.marks
    ∙ (marks_from-stays source c.positions.at c.positions-test.true (sym c.if-not-is_taken_away.ensures)
    ∙ (ap (λ (line : ℕ). mark line ∷ marks_from source (c.positions.at + 1)) (sym inv.line)
    ∙ ap (λ (s : List ℕ). mark c.positions.line ∷ marks_from s (c.positions.at + 1)) (sym inv.same))))

pub positions-preserved : goal.positions-preserved
positions-preserved c =
    let source : List ℕ = c.self.inside.source.now in
    let inv = c.positions.invariant in
    record {
      same = inv.same;
      within = omega arith;
      line = next_line source c.positions.at c.positions.line c.line_behind-line.result c.positions-test.true inv.line c.line_behind-line.ensures;
      marks = sym (marks_from-taken source c.positions.at c.positions-test.true (sym c.if-not-is_taken_away.ensures)) ∙ inv.marks;
    }

pub invariant_of-self-2 : goal.invariant_of-self-2
invariant_of-self-2 c =
    let inv = c.positions.invariant in
    subst (λ (s : List ℕ). (c.positions.at ≤ length s) × (c.positions.line ≡ line_at s c.positions.at)) (sym inv.same) (inv.within, inv.line)

pub returns-clause-ended : goal.returns-clause-ended
returns-clause-ended c =
    ap (λ (s : List ℕ). marks_from s c.positions.at) c.positions.invariant.same ∙ marks_from-end c.self.inside.source.now c.positions.at (omega arith)
