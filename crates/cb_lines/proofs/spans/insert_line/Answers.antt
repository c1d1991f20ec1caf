use Rattle.std.proofs.Common.{◌≡◌, ℕ, ◌+◌, ◌-◌, ◌<◌, ◌≤◌, false, IsTrue, ◌↔◌, List, length, get_or, set, refl, sym, ap, ◌∙◌, subst, arith}
use Rattle.std.specs.List.{insert, remove}
use Rattle.std.proofs.lemmas.Bool.{false≢true}
use Rattle.cb_lines.specs.declared.line_set.Span.{Span}
use Rattle.cb_lines.specs.Lines.{with_line, AreMaximal}
use Rattle.cb_lines.proofs.SpanLists.{lines}
use Rattle.cb_lines.proofs.Adding.{none, place_of, added_alone, added_front, added_back, added_joined, already}
use Rattle.cb_lines.proofs.Written.{read_at, added_as}
use Rattle.cb_lines.proofs.spans.insert_line.Goals as goal

-- the three tests, and what they say of the spans
abbrev Begins : ℕ → ℕ → List Span → Type 0
Begins line p ss = (p < length ss) × ((get_or ss p none).first ≤ line)

abbrev Front : ℕ → ℕ → List Span → Type 0
Front line p ss = (0 < p) × (line ≡ (get_or ss (p - 1) none).last + 1)

abbrev Back : ℕ → ℕ → List Span → Type 0
Back line p ss = (p < length ss) × ((get_or ss p none).first ≡ line + 1)

fails : (P : Type 0) → (IsTrue false ↔ P) → P → ⊥
fails P h p = false≢true (h.1 p)

pub returns-then-begins_by-clause-numbers : goal.returns-then-begins_by-clause-numbers
returns-then-begins_by-clause-numbers c =
    let e = c.as_slice-held.ensures in
    let held : List Span = c.as_slice-held.result.now in
    let p : ℕ = c.count_before-at.result in
    let is = c.if-begins_by.ensures.0 refl in
    subst (λ (ss : List Span). lines ss ≡ with_line c.args.line (lines ss)) e
    (already c.args.line held p (subst AreMaximal (sym e) c.requires) is.0 is.1 (c.count_before-at.ensures.behind p none (omega arith) is.0))

pub returns-in-true-true : goal.returns-in-true-true
returns-in-true-true c =
    let e = c.as_slice-held.ensures in
    let line : ℕ = c.args.line in
    let held : List Span = c.as_slice-held.result.now in
    let p : ℕ = c.count_before-at.result in
    let place = place_of line held held p (subst AreMaximal (sym e) c.requires) refl c.count_before-at.ensures.within c.count_before-at.ensures.before (fails (Begins line p held) c.if-begins_by.ensures) in
    let front = c.in-true-true.ensures.0 refl in
    let back = c.in-true-true.ensures'.0 refl in
    let x : Span = get_or held (p - 1) none in
    let y : Span = get_or held p none in
    let run : Span = record { first = x.first; last = y.last } in
    let made =
    added_as line held c.args.spans.now (remove (set held (p - 1) run) p) c.remove.new.self e
    (c.remove.ensures ∙ ap (λ (xs : List Span). remove xs p) (c.set.ensures ∙ ap (λ (xs : List Span). set xs (p - 1) run) (sym e)))
    (added_joined line held p place front.0 front.1 back.0 back.1 x y (read_at held (p - 1) (omega arith)) (read_at held p back.0)) in
    record { maximal = made.maximal; numbers = made.numbers }

pub returns-in-true-false : goal.returns-in-true-false
returns-in-true-false c =
    let e = c.as_slice-held.ensures in
    let line : ℕ = c.args.line in
    let held : List Span = c.as_slice-held.result.now in
    let p : ℕ = c.count_before-at.result in
    let place = place_of line held held p (subst AreMaximal (sym e) c.requires) refl c.count_before-at.ensures.within c.count_before-at.ensures.before (fails (Begins line p held) c.if-begins_by.ensures) in
    let front = c.in-true-false.ensures.0 refl in
    let x : Span = get_or held (p - 1) none in
    let run : Span = record { first = x.first; last = line } in
    let made =
    added_as line held c.args.spans.now (set held (p - 1) run) c.set-in-true-false.new.self e
    (c.set-in-true-false.ensures ∙ ap (λ (xs : List Span). set xs (p - 1) run) (sym e))
    (added_back line held p place front.0 front.1 (fails (Back line p held) c.in-true-false.ensures') x (read_at held (p - 1) (omega arith))) in
    record { maximal = made.maximal; numbers = made.numbers }

pub returns-in-false-true : goal.returns-in-false-true
returns-in-false-true c =
    let e = c.as_slice-held.ensures in
    let line : ℕ = c.args.line in
    let held : List Span = c.as_slice-held.result.now in
    let p : ℕ = c.count_before-at.result in
    let place = place_of line held held p (subst AreMaximal (sym e) c.requires) refl c.count_before-at.ensures.within c.count_before-at.ensures.before (fails (Begins line p held) c.if-begins_by.ensures) in
    let back = c.in-false-true.ensures'.0 refl in
    let y : Span = get_or held p none in
    let run : Span = record { first = line; last = y.last } in
    let made =
    added_as line held c.args.spans.now (set held p run) c.set-in-false-true.new.self e
    (c.set-in-false-true.ensures ∙ ap (λ (xs : List Span). set xs p run) (sym e))
    (added_front line held p place (fails (Front line p held) c.in-false-true.ensures) back.0 back.1 y (read_at held p back.0)) in
    record { maximal = made.maximal; numbers = made.numbers }

pub returns-in_ok-insert-in-false-false : goal.returns-in_ok-insert-in-false-false
returns-in_ok-insert-in-false-false c =
    let e = c.as_slice-held.ensures in
    let line : ℕ = c.args.line in
    let held : List Span = c.as_slice-held.result.now in
    let p : ℕ = c.count_before-at.result in
    let place = place_of line held held p (subst AreMaximal (sym e) c.requires) refl c.count_before-at.ensures.within c.count_before-at.ensures.before (fails (Begins line p held) c.if-begins_by.ensures) in
    let run : Span = record { first = line; last = line } in
    let made =
    added_as line held c.args.spans.now (insert held p run) c.insert.new.self e
    (c.in_ok-insert-in-false-false.ensures.ok ∙ ap (λ (xs : List Span). insert xs p run) (sym e))
    (added_alone line held p place (fails (Front line p held) c.in-false-false.ensures) (fails (Back line p held) c.in-false-false.ensures')) in
    record { maximal = made.maximal; numbers = made.numbers }
