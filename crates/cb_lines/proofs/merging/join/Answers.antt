use Rattle.std.proofs.Common.{◌≡◌, ℕ, ◌+◌, ◌-◌, ◌<◌, ◌≤◌, List, length, get_or, set, refl, sym, ap, ◌∙◌, subst, inl, inr, arith}
use Rattle.std.proofs.lemmas.Bool.{false≢true, cases_lt}
use Rattle.cb_lines.specs.declared.line_set.Span.{Span}
use Rattle.cb_lines.specs.Lines.{AreMaximal}
use Rattle.cb_lines.specs.inner.Merging.{last_first}
use Rattle.cb_lines.proofs.Adding.{none}
use Rattle.cb_lines.proofs.SpanLists.{bound}
use Rattle.cb_lines.proofs.Written.{read_at, joins_as}
use Rattle.cb_lines.proofs.Joining.{Joins, joins_pushed, joins_read, bound_empty, bound_read}
use Rattle.cb_lines.proofs.merging.join.Goals as goal
use Rattle.cb_lines.proofs.merging.join.Goals.{In_ok-push, else-count-gt0-via-then-count-gt0+else-meets, else-count-gt0-via-else-count-gt0}

pub returns-then-meets : goal.returns-then-meets
returns-then-meets c =
    let e = c.as_slice-held.ensures in
    let held : List Span = c.as_slice-held.result.now in
    let q : ℕ = length held - 1 in
    let len : length held ≡ q + 1 = omega arith in
    let s : Span = get_or held q none in
    let run : Span = record { first = s.first; last = c.max-last.result } in
    let sis : s ≡ get_or held q s = read_at held q (omega arith) in
    let made =
    joins_as c.args.next held c.args.spans.now (set held q run) c.set.new.self e
    (c.set.ensures ∙ ap (λ (xs : List Span). set xs q run) (sym e))
    (joins_read c.args.next held q c.max-last.result len (subst AreMaximal (sym e) c.requires.maximal) (subst (λ (ss : List Span). last_first ss ≤ c.args.next.first) (sym e) c.requires.rising) c.requires.full s s s sis sis sis (c.if-meets.ensures.0 refl) c.max-last.ensures) in
    record { maximal = made.maximal; rising = made.rising; members = made.members }

low : (c : In_ok-push) → bound 0 c.args.spans.now ≤ c.args.next.first
low c =
    let e = c.as_slice-held.ensures in
    let held : List Span = c.as_slice-held.result.now in
    subst (λ (ss : List Span). bound 0 ss ≤ c.args.next.first) e
    (elim c.else-count-gt0.branch [
      | else-count-gt0-via-then-count-gt0+else-meets w ↦ (
          let q : ℕ = length held - 1 in
          let len : length held ≡ q + 1 = omega arith in
          let r : Span = get_or held q none in
          let apart : r.last + 1 < c.args.next.first = elim (cases_lt (r.last + 1) c.args.next.first) [ inl lt ↦ lt | inr ge ↦ absurd (false≢true (w.if-meets.ensures.1 ge)) ] in
          omega (arith, bound_read held q len r (read_at held q (omega arith)))
          )
      | else-count-gt0-via-else-count-gt0 w ↦ (
          let len : length held ≡ 0 = omega arith in
          omega (arith, bound_empty held len)
          )
    ])

pub returns : goal.returns
returns c =
    let made =
    subst (Joins c.args.next c.args.spans.now) (sym c.in_ok-push.ensures.ok)
    (joins_pushed c.args.next c.args.spans.now c.requires.maximal c.requires.full (low c)) in
    record { maximal = made.maximal; rising = made.rising; members = made.members }
