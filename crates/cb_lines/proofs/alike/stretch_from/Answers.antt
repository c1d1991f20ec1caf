use Rattle.std.proofs.Common.{◌≡◌, ℕ, ◌+◌, ◌<◌, ◌≤◌, List, length, get_or, sym, ap, ◌∙◌, arith}
use Rattle.std.proofs.lemmas.Bool.{false≢true}
use Rattle.cb_lines.specs.declared.line_set.Span.{Span}
use Rattle.cb_lines.specs.Lines.{has_line, AreMaximal}
use Rattle.cb_lines.proofs.Adding.{none}
use Rattle.cb_lines.proofs.SpanLists.{lines}
use Rattle.cb_lines.proofs.Written.{read_at}
use Rattle.cb_lines.proofs.Stretches.{Reached, Stands, past_alike, held_alike, held_ends, gap_alike, gap_ends}
use Rattle.cb_lines.proofs.alike.stretch_from.Goals as goal

reached : (first : ℕ) (ss : List Span) (p : ℕ) → AreMaximal ss → ((k : ℕ) (d : Span) → k < p → (get_or ss k d).last < first)
    → ((k : ℕ) (d : Span) → p ≤ k → k < length ss → first ≤ (get_or ss k d).last) → Reached first ss p
reached first ss p h before behind = record { maximal = h; before = before; behind = behind }

stands : (ss : List Span) (p : ℕ) → p < length ss → Stands ss p (get_or ss p none)
stands ss p h = record { within = h; is = read_at ss p h }

pub returns-then-at-spans-clause-alike : goal.returns-then-at-spans-clause-alike
returns-then-at-spans-clause-alike c = λ line le ends.
    past_alike c.args.first c.args.spans.now c.count_before-at.result
    (reached c.args.first c.args.spans.now c.count_before-at.result c.requires.maximal c.count_before-at.ensures.before c.count_before-at.ensures.behind)
    (omega arith) line le

pub returns-then-span-first-clause-alike : goal.returns-then-span-first-clause-alike
returns-then-span-first-clause-alike c = λ line le ends.
    let ss : List Span = c.args.spans.now in
    let p : ℕ = c.count_before-at.result in
    let within : p < length ss = omega arith in
    let ended : line ≤ (get_or ss p none).last = omega arith in
    held_alike c.args.first ss p (get_or ss p none)
    (reached c.args.first ss p c.requires.maximal c.count_before-at.ensures.before c.count_before-at.ensures.behind) (stands ss p within)
    c.if-span-first.true line le ended

pub returns-then-span-first-clause-whole : goal.returns-then-span-first-clause-whole
returns-then-span-first-clause-whole c = λ less held.
    let ss : List Span = c.args.spans.now in
    let p : ℕ = c.count_before-at.result in
    let within : p < length ss = omega arith in
    let last : c.min.result ≡ (get_or ss p none).last = omega arith in
    let ends = held_ends c.args.first ss p (get_or ss p none)
    (reached c.args.first ss p c.requires.maximal c.count_before-at.ensures.before c.count_before-at.ensures.behind) (stands ss p within) in
    false≢true (sym ends ∙ (ap (λ (n : ℕ). has_line (lines ss) (n + 1)) (sym last) ∙ held))

pub returns-clause-alike : goal.returns-clause-alike
returns-clause-alike c = λ line le ends.
    let ss : List Span = c.args.spans.now in
    let p : ℕ = c.count_before-at.result in
    let within : p < length ss = omega arith in
    let before : line < (get_or ss p none).first = omega arith in
    gap_alike c.args.first ss p (get_or ss p none)
    (reached c.args.first ss p c.requires.maximal c.count_before-at.ensures.before c.count_before-at.ensures.behind) (stands ss p within)
    line le before

pub returns-clause-whole : goal.returns-clause-whole
returns-clause-whole c = λ less lacked.
    let ss : List Span = c.args.spans.now in
    let p : ℕ = c.count_before-at.result in
    let within : p < length ss = omega arith in
    let first : c.min-2.result + 1 ≡ (get_or ss p none).first = omega arith in
    let begins : c.args.first ≤ (get_or ss p none).first = omega arith in
    let held = gap_ends c.args.first ss p (get_or ss p none)
    (reached c.args.first ss p c.requires.maximal c.count_before-at.ensures.before c.count_before-at.ensures.behind) (stands ss p within) begins in
    false≢true (sym lacked ∙ (ap (λ (n : ℕ). has_line (lines ss) n) first ∙ held))
