-- The runs of a set of lines are its spans.
use Rattle.std.proofs.Common.{◌≡◌, ℕ, ◌+◌, ◌-◌, ◌<◌, ◌≤◌, List, [], ◌∷◌, ◌++◌, refl, sym, ap, ◌∙◌, zero, suc, arith, eqb}
use Rattle.std.specs.List.{flat_map, range_with_len}
use Rattle.std.proofs.lemmas.Bool.{cond-true, cond-false, eq-eqb, ne_eqb}
use Rattle.cb_lines.specs.declared.line_set.Span.{Span}
use Rattle.cb_lines.specs.Lines.{span_lines, AreMaximal}
use Rattle.cb_reports.specs.Files.{with_run, runs_of}

-- the first of the runs, where there is one, begins behind a line
abbrev BeginsBehind : ℕ → List Span → Type 0
BeginsBehind line [] = Unit {0}
BeginsBehind line (r ∷ rs) = line < r.first

run-alone : (l : ℕ) (rs : List Span) → BeginsBehind (l + 1) rs → with_run l rs ≡ record { first = l; last = l } ∷ rs
run-alone l [] h = refl
run-alone l (r ∷ rs) h = cond-false (eqb r.first (l + 1)) (record { first = l; last = r.last } ∷ rs) (record { first = l; last = l } ∷ r ∷ rs) (ne_eqb r.first (l + 1) (λ e. omega arith))

run-joins : (l : ℕ) (r : Span) (rs : List Span) → r.first ≡ l + 1 → with_run l (r ∷ rs) ≡ record { first = l; last = r.last } ∷ rs
run-joins l r rs e = cond-true (eqb r.first (l + 1)) (record { first = l; last = r.last } ∷ rs) (record { first = l; last = l } ∷ r ∷ rs) (eq-eqb r.first (l + 1) e)

behind-same : (x y : ℕ) (rs : List Span) → y ≡ x → BeginsBehind (y + 1) rs → BeginsBehind (x + 1) rs
behind-same x y [] e h = tt
behind-same x y (r ∷ rs) e h = omega arith

run_of-range : (a n : ℕ) (ls : List ℕ) (rs : List Span) → runs_of ls ≡ rs → BeginsBehind (a + n + 1) rs
    → runs_of (range_with_len a (suc n) ++ ls) ≡ record { first = a; last = a + n } ∷ rs
run_of-range a zero ls rs e h =
    let z : a + 0 ≡ a = omega arith in
    ap (with_run a) e ∙ run-alone a rs (behind-same a (a + 0) rs z h) ∙ ap (λ b. record { first = a; last = b } ∷ rs) (sym z)
run_of-range a (suc n) ls rs e h =
    let z : a + 1 + n ≡ a + suc n = omega arith in
    ap (with_run a) (run_of-range (a + 1) n ls rs e (behind-same (a + 1 + n) (a + suc n) rs (sym z) h))
    ∙ run-joins a (record { first = a + 1; last = a + 1 + n }) rs refl ∙ ap (λ b. record { first = a; last = b } ∷ rs) z

behind-maximal : (s : Span) (ss : List Span) → AreMaximal (s ∷ ss) → BeginsBehind (s.last + 1) ss
behind-maximal s [] h = tt
behind-maximal s (t ∷ ss) h = h.1

first-maximal : (s : Span) (ss : List Span) → AreMaximal (s ∷ ss) → s.first ≤ s.last
first-maximal s [] h = h
first-maximal s (t ∷ ss) h = h.0

rest-maximal : (s : Span) (ss : List Span) → AreMaximal (s ∷ ss) → AreMaximal ss
rest-maximal s [] h = tt
rest-maximal s (t ∷ ss) h = h.2

pub runs_of-spans : (ss : List Span) → AreMaximal ss → runs_of (flat_map span_lines ss) ≡ ss
runs_of-spans [] h = refl
runs_of-spans (s ∷ ss) h =
    let some = first-maximal s ss h in
    let n : s.last + 1 - s.first ≡ suc (s.last - s.first) = omega arith in
    let end : s.first + (s.last - s.first) ≡ s.last = omega arith in
    ap (λ k. runs_of (range_with_len s.first k ++ flat_map span_lines ss)) n
    ∙ run_of-range s.first (s.last - s.first) (flat_map span_lines ss) ss (runs_of-spans ss (rest-maximal s ss h))
    (behind-same (s.first + (s.last - s.first)) s.last ss (sym end) (behind-maximal s ss h))
    ∙ ap (λ b. record { first = s.first; last = b } ∷ ss) end
