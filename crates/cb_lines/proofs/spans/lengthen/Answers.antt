use Rattle.std.proofs.Common.{◌≡◌, ℕ, ◌+◌, ◌-◌, ◌<◌, ◌≤◌, List, length, get_or, set, refl, sym, ap, ◌∙◌, subst, arith}
use Rattle.std.proofs.lemmas.Bool.{leb-true}
use Rattle.cb_lines.specs.declared.line_set.Span.{Span}
use Rattle.cb_lines.specs.Lines.{with_line, AreMaximal}
use Rattle.cb_lines.proofs.SpanLists.{lines}
use Rattle.cb_lines.proofs.Adding.{Added, none}
use Rattle.cb_lines.proofs.AtEnd.{last_full, held_by_last, added_to_last}
use Rattle.cb_lines.proofs.Written.{added_as}
use Rattle.cb_lines.proofs.spans.lengthen.Goals as goal

-- the last span holds the line or ends directly before it
abbrev Reaches : ℕ → List Span → Type 0
Reaches line ss =
    (0 < length ss) × ((get_or ss (length ss - 1) none).first ≤ line) × line ≤ (get_or ss (length ss - 1) none).last + 1

pub returns-then-line-last-clause-numbers : goal.returns-then-line-last-clause-numbers
returns-then-line-last-clause-numbers c =
    let e = c.as_slice-held.ensures in
    let held : List Span = c.as_slice-held.result.now in
    λ begins. subst (λ (ss : List Span). lines ss ≡ with_line c.args.line (lines ss)) e
    (held_by_last c.args.line held (subst AreMaximal (sym e) c.requires) (omega arith) (leb-true _ _ begins) c.if-line-last.true)

pub returns-clause-reaches : goal.returns-clause-reaches
returns-clause-reaches c =
    let e = c.as_slice-held.ensures in
    let held : List Span = c.as_slice-held.result.now in
    let full = last_full held (subst AreMaximal (sym e) c.requires) (omega arith) in
    (λ _. subst (Reaches c.args.line) e (omega arith, omega arith, omega arith), λ _. refl)

-- the last span made longer, as it was read and then written
longer : (line : ℕ) (held ss new : List Span) → held ≡ ss → AreMaximal ss → 0 < length held → line ≡ (get_or held (length held - 1) none).last + 1
    → new ≡ set ss (length held - 1) (record { first = (get_or held (length held - 1) none).first; last = line }) → Added line ss new
longer line held ss new e h some next is =
    let run : Span = record { first = (get_or held (length held - 1) none).first; last = line } in
    added_as line held ss (set held (length held - 1) run) new e (is ∙ ap (λ (xs : List Span). set xs (length held - 1) run) (sym e))
    (added_to_last line held (subst AreMaximal (sym e) h) some next)

pub returns-clause-maximal : goal.returns-clause-maximal
returns-clause-maximal c =
    let full = last_full c.as_slice-held.result.now (subst AreMaximal (sym c.as_slice-held.ensures) c.requires) (omega arith) in
    (longer c.args.line c.as_slice-held.result.now c.args.spans.now c.set.new.self c.as_slice-held.ensures c.requires (omega arith) (omega arith) c.set.ensures).maximal

pub returns-clause-numbers : goal.returns-clause-numbers
returns-clause-numbers c =
    let full = last_full c.as_slice-held.result.now (subst AreMaximal (sym c.as_slice-held.ensures) c.requires) (omega arith) in
    λ _. (longer c.args.line c.as_slice-held.result.now c.args.spans.now c.set.new.self c.as_slice-held.ensures c.requires (omega arith) (omega arith) c.set.ensures).numbers
