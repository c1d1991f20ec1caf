-- Lines from one on that maximal spans hold together, or lack together.
use Rattle.std.proofs.Common.{◌≡◌, ℕ, ◌+◌, ◌<◌, ◌≤◌, Bool, true, false, IsTrue, ◌↔◌, List, length, get_or, refl, sym, ◌∙◌, subst, arith}
use Rattle.std.proofs.lemmas.Bool.{false≢true}
use Rattle.std.proofs.lemmas.List.{get_or_default}
use Rattle.cb_lines.specs.declared.line_set.Span.{Span}
use Rattle.cb_lines.specs.Lines.{has_line, AreMaximal}
use Rattle.cb_lines.proofs.Adding.{none}
use Rattle.cb_lines.proofs.SpanLists.{lines, Fits-from_maximal, ends_before, ends_behind, lasts_rise, all_before}
use Rattle.cb_lines.proofs.Members.{has_at}

-- the place of a line: behind the spans that end before it
pub record Reached (line : ℕ) (ss : List Span) (p : ℕ) : Type 0 where
  pub maximal : AreMaximal ss
  pub before : (k : ℕ) (d : Span) → k < p → (get_or ss k d).last < line
  pub behind : (k : ℕ) (d : Span) → p ≤ k → k < length ss → line ≤ (get_or ss k d).last

-- the place of a span, and what is read there
pub record Stands (ss : List Span) (p : ℕ) (s : Span) : Type 0 where
  pub within : p < length ss
  pub is : s ≡ get_or ss p s

at_span : (ss : List Span) (p line : ℕ) (s : Span) (b : Bool) → AreMaximal ss → Stands ss p s → ((k : ℕ) (d : Span) → k < p → (get_or ss k d).last < line) → line ≤ s.last
    → (IsTrue b ↔ (s.first ≤ line)) → b ≡ has_line (lines ss) line
at_span ss p line s b maximal at before ends test =
    let one : get_or ss p none ≡ s = get_or_default ss p none s at.within ∙ sym at.is in
    has_at ss p line b maximal before
    (λ k d pk kl.
    let here : get_or ss p d ≡ s = get_or_default ss p d s at.within ∙ sym at.is in
    let far : (get_or ss p d).last ≤ (get_or ss k d).last = lasts_rise ss maximal p k d pk kl in
    let far : s.last ≤ (get_or ss k d).last = subst (λ (x : Span). x.last ≤ (get_or ss k d).last) here far in
    omega arith)
    (λ h. (at.within, subst (λ (x : Span). x.first ≤ line) (sym one) (test.0 h)), λ h. test.1 (subst (λ (x : Span). x.first ≤ line) one h.1))

full : (ss : List Span) (p : ℕ) (s : Span) → AreMaximal ss → Stands ss p s → s.first ≤ s.last
full ss p s maximal at =
    let ends : (get_or ss p s).first ≤ (get_or ss p s).last = ends_behind 0 ss (Fits-from_maximal ss maximal) p s at.within in
    subst (λ (x : Span). x.first ≤ x.last) (sym at.is) ends

-- behind all spans
pub past_alike : (first : ℕ) (ss : List Span) (p : ℕ) → Reached first ss p → length ss ≤ p → (line : ℕ) → first ≤ line → has_line (lines ss) line ≡ false
past_alike first ss p at all line le =
    sym (has_at ss p line false at.maximal (λ k d kp. let b : (get_or ss k d).last < first = at.before k d kp in omega arith) (λ k d pk kl. absurd (omega arith))
    (λ h. absurd (false≢true h), λ h. absurd (let l : p < length ss = h.0 in omega arith)))

-- in a span
pub held_alike : (first : ℕ) (ss : List Span) (p : ℕ) (s : Span) → Reached first ss p → Stands ss p s → s.first ≤ first → (line : ℕ) → first ≤ line → line ≤ s.last → has_line (lines ss) line ≡ true
held_alike first ss p s at stands begins line le ends =
    sym (at_span ss p line s true at.maximal stands (λ k d kp. let b : (get_or ss k d).last < first = at.before k d kp in omega arith) ends (λ _. omega arith, λ _. refl))

-- directly behind a span
pub held_ends : (first : ℕ) (ss : List Span) (p : ℕ) (s : Span) → Reached first ss p → Stands ss p s → has_line (lines ss) (s.last + 1) ≡ false
held_ends first ss p s at stands =
    let h = Fits-from_maximal ss at.maximal in
    let apart = λ (k : ℕ) (d : Span) (pk : p < k) (kl : k < length ss).
    let gap : (get_or ss p d).last + 1 < (get_or ss k d).first = ends_before 0 ss h p k d pk kl in
    let here : get_or ss p d ≡ s = get_or_default ss p d s stands.within ∙ sym stands.is in
    subst (λ (x : Span). x.last + 1 < (get_or ss k d).first) here gap in
    sym (has_at ss (p + 1) (s.last + 1) false at.maximal
    (λ k d kp.
    let here : s ≡ get_or ss p d = stands.is ∙ get_or_default ss p s d stands.within in
    let last : s.last < s.last + 1 = omega arith in
    all_before ss at.maximal (s.last + 1) p d stands.within (subst (λ (x : Span). x.last < s.last + 1) here last) k d kp)
    (λ k d pk kl.
    let gap : s.last + 1 < (get_or ss k d).first = apart k d (omega arith) kl in
    let ends : (get_or ss k d).first ≤ (get_or ss k d).last = ends_behind 0 ss h k d kl in
    omega arith) (
      λ f. absurd (false≢true f),
      λ w.
          let gap : s.last + 1 < (get_or ss (p + 1) none).first = apart (p + 1) none (omega arith) w.0 in
          let begins : (get_or ss (p + 1) none).first ≤ s.last + 1 = w.1 in
          absurd (omega arith),
    ))

-- before a span
pub gap_alike : (first : ℕ) (ss : List Span) (p : ℕ) (s : Span) → Reached first ss p → Stands ss p s → (line : ℕ) → first ≤ line → line < s.first → has_line (lines ss) line ≡ false
gap_alike first ss p s at stands line le begins =
    let ends : s.first ≤ s.last = full ss p s at.maximal stands in
    sym (at_span ss p line s false at.maximal stands (λ k d kp. let b : (get_or ss k d).last < first = at.before k d kp in omega arith) (omega arith)
    (λ h. absurd (false≢true h), λ h. absurd (let late : s.first ≤ line = h in omega arith)))

-- where a span begins
pub gap_ends : (first : ℕ) (ss : List Span) (p : ℕ) (s : Span) → Reached first ss p → Stands ss p s → first ≤ s.first → has_line (lines ss) s.first ≡ true
gap_ends first ss p s at stands le =
    let ends : s.first ≤ s.last = full ss p s at.maximal stands in
    sym (at_span ss p s.first s true at.maximal stands (λ k d kp. let b : (get_or ss k d).last < first = at.before k d kp in omega arith) ends (λ _. omega arith, λ _. refl))
