-- A line at the last of maximal spans, or behind them all.
use Rattle.std.proofs.Common.{◌≡◌, ℕ, ◌+◌, ◌-◌, ◌<◌, ◌≤◌, List, [], ◌∷◌, ◌++◌, length, get_or, set, sym, subst, arith, append-nil}
use Rattle.std.proofs.lemmas.List.{get_or_default}
use Rattle.cb_lines.specs.declared.line_set.Span.{Span}
use Rattle.cb_lines.specs.Lines.{with_line, AreMaximal}
use Rattle.cb_lines.proofs.SpanLists.{lines, Fits, bound, Fits-from_maximal, maximal_from_Fits, Fits-right, Fits-append, ends_behind, all_before}
use Rattle.cb_lines.proofs.Adding.{Added, Place, none, kept, alone, added_back, already}
use Rattle.cb_lines.proofs.Joining.{bound_last}

-- the span of one line
abbrev pub one : ℕ → Span
one line = record { first = line; last = line }

-- a span of its own goes behind the bound, and only there
pub maximal_behind : (line : ℕ) (ss : List Span) → AreMaximal ss → bound 0 ss ≤ line → AreMaximal (ss ++ one line ∷ [])
maximal_behind line ss h low =
    maximal_from_Fits 0 (ss ++ one line ∷ []) (Fits-append 0 ss (one line ∷ []) (Fits-from_maximal ss h) (low, omega arith, tt))

pub bound_behind : (line : ℕ) (ss : List Span) → AreMaximal (ss ++ one line ∷ []) → bound 0 ss ≤ line
bound_behind line ss h = (Fits-right 0 ss (one line ∷ []) (Fits-from_maximal (ss ++ one line ∷ []) h)).0

pub added_behind : (line : ℕ) (ss : List Span) → AreMaximal ss → bound 0 ss ≤ line → Added line ss (ss ++ one line ∷ [])
added_behind line ss h low =
    subst (λ (old : List Span). Added line old (ss ++ one line ∷ [])) (append-nil ss)
    (kept line ss [] (one line ∷ []) (subst (Fits 0) (sym (append-nil ss)) (Fits-from_maximal ss h)) (omega arith) (low, omega arith, tt) (alone line 0 [] tt))

-- the last span
abbrev pub last_of : List Span → Span
last_of ss = get_or ss (length ss - 1) none

pub last_full : (ss : List Span) → AreMaximal ss → 0 < length ss → (last_of ss).first ≤ (last_of ss).last
last_full ss h some = ends_behind 0 ss (Fits-from_maximal ss h) (length ss - 1) none (omega arith)

pub bound_of_last : (ss : List Span) → 0 < length ss → bound 0 ss ≡ (last_of ss).last + 2
bound_of_last ss some = bound_last ss (length ss - 1) (omega arith)

pub held_by_last : (line : ℕ) (ss : List Span) → AreMaximal ss → 0 < length ss → (last_of ss).first ≤ line → line ≤ (last_of ss).last → lines ss ≡ with_line line (lines ss)
held_by_last line ss h some begins ends = already line ss (length ss - 1) h (omega arith) begins ends

pub added_to_last : (line : ℕ) (ss : List Span) → AreMaximal ss → 0 < length ss → line ≡ (last_of ss).last + 1 → Added line ss (set ss (length ss - 1) (record { first = (last_of ss).first; last = line }))
added_to_last line ss h some e =
    let within : length ss - 1 < length ss = omega arith in
    let place : Place line ss (length ss) = record {
      maximal = h;
      within = omega arith;
      before = λ k d kl. all_before ss h line (length ss - 1) none within (omega arith) k d (omega arith);
      behind = λ l. absurd (omega arith);
    } in
    added_back line ss (length ss) place some e (λ back. absurd (let l : length ss < length ss = back.0 in omega arith)) (last_of ss) (get_or_default ss (length ss - 1) none (last_of ss) within)
