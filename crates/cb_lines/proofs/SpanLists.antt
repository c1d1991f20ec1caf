-- Rising spans, cut in two at any place, and what one line more leaves of them.
use Rattle.std.proofs.Common.{◌≡◌, ℕ, ◌+◌, ◌-◌, ◌<◌, ◌≤◌, List, [], ◌∷◌, ◌++◌, length, get_or, take, refl, sym, ap, ◌∙◌, suc, zero, inl, inr, arith, append_assoc}
use Rattle.std.specs.List.{flat_map, range_with_len}
use Rattle.std.specs.List.Sorted.{IsNonDecreasingBy}
use Rattle.std.proofs.lemmas.Bool.{cases_eq, cases_lt, le-ltb, lt-ltb, ne_eqb, eq-eqb}
use Rattle.std.proofs.lemmas.List.{take_more, get_or_default}
use Rattle.cb_lines.specs.declared.line_set.Span.{Span}
use Rattle.cb_lines.specs.Lines.{with_line, span_lines, AreMaximal}

-- the numbers of spans
abbrev pub lines : List Span → List ℕ
lines ss = flat_map span_lines ss

-- maximal spans, none of which begins below a bound
abbrev pub Fits : ℕ → List Span → Type 0
Fits low [] = Unit {0}
Fits low (s ∷ ss) = (low ≤ s.first) × (s.first ≤ s.last) × Fits (s.last + 2) ss

-- the bound behind spans
abbrev pub bound : ℕ → List Span → ℕ
bound low [] = low
bound low (s ∷ ss) = bound (s.last + 2) ss

pub Fits-from_maximal : (ss : List Span) → AreMaximal ss → Fits 0 ss
Fits-from_maximal [] h = tt
Fits-from_maximal (s ∷ []) h = (omega arith, h, tt)
Fits-from_maximal (s ∷ t ∷ ss) h =
    let rest : (0 ≤ t.first) × (t.first ≤ t.last) × Fits (t.last + 2) ss = Fits-from_maximal (t ∷ ss) h.2 in
    let apart : s.last + 1 < t.first = h.1 in
    (omega arith, h.0, (omega arith, rest.1, rest.2))

pub maximal_from_Fits : (low : ℕ) (ss : List Span) → Fits low ss → AreMaximal ss
maximal_from_Fits low [] h = tt
maximal_from_Fits low (s ∷ []) h = h.1
maximal_from_Fits low (s ∷ t ∷ ss) h =
    let apart : s.last + 2 ≤ t.first = h.2.0 in
    (h.1, omega arith, maximal_from_Fits (s.last + 2) (t ∷ ss) h.2)

pub Fits-weaker : (low high : ℕ) (ss : List Span) → low ≤ high → Fits high ss → Fits low ss
Fits-weaker low high [] le h = tt
Fits-weaker low high (s ∷ ss) le h =
    let begins : high ≤ s.first = h.0 in
    (omega arith, h.1, h.2)

pub Fits-left : (low : ℕ) (xs ys : List Span) → Fits low (xs ++ ys) → Fits low xs
Fits-left low [] ys h = tt
Fits-left low (x ∷ xs) ys h = (h.0, h.1, Fits-left (x.last + 2) xs ys h.2)

pub Fits-right : (low : ℕ) (xs ys : List Span) → Fits low (xs ++ ys) → Fits (bound low xs) ys
Fits-right low [] ys h = h
Fits-right low (x ∷ xs) ys h = Fits-right (x.last + 2) xs ys h.2

pub Fits-append : (low : ℕ) (xs ys : List Span) → Fits low xs → Fits (bound low xs) ys → Fits low (xs ++ ys)
Fits-append low [] ys h k = k
Fits-append low (x ∷ xs) ys h k = (h.0, h.1, Fits-append (x.last + 2) xs ys h.2 k)

pub bound-append : (low : ℕ) (xs ys : List Span) → bound low (xs ++ ys) ≡ bound (bound low xs) ys
bound-append low [] ys = refl
bound-append low (x ∷ xs) ys = bound-append (x.last + 2) xs ys

pub bound-le : (low : ℕ) (xs : List Span) → Fits low xs → low ≤ bound low xs
bound-le low [] h = omega arith
bound-le low (x ∷ xs) h =
    let begins : low ≤ x.first = h.0 in
    let ends : x.first ≤ x.last = h.1 in
    omega (arith, bound-le (x.last + 2) xs h.2)

-- the bound behind the spans up to one, and that one
pub bound-take : (ss : List Span) (i : ℕ) (d : Span) → i < length ss → bound 0 (take (i + 1) ss) ≡ (get_or ss i d).last + 2
bound-take ss i d h = ap (bound 0) (take_more ss i d h) ∙ bound-append 0 (take i ss) (get_or ss i d ∷ [])

-- no span begins below the bound
pub begins_above : (low : ℕ) (ss : List Span) → Fits low ss → (j : ℕ) (d : Span) → j < length ss → low ≤ (get_or ss j d).first
begins_above low [] h j d l = absurd (omega arith)
begins_above low (s ∷ ss) h zero d l = h.0
begins_above low (s ∷ ss) h (suc j) d l =
    let begins : low ≤ s.first = h.0 in
    let ends : s.first ≤ s.last = h.1 in
    omega (arith, begins_above (s.last + 2) ss h.2 j d (omega arith))

-- a span ends before any later one begins
pub ends_before : (low : ℕ) (ss : List Span) → Fits low ss → (i j : ℕ) (d : Span) → i < j → j < length ss → (get_or ss i d).last + 1 < (get_or ss j d).first
ends_before low [] h i j d ij l = absurd (omega arith)
ends_before low (s ∷ ss) h i zero d ij l = absurd (omega arith)
ends_before low (s ∷ ss) h zero (suc j) d ij l = omega (arith, begins_above (s.last + 2) ss h.2 j d (omega arith))
ends_before low (s ∷ ss) h (suc i) (suc j) d ij l = ends_before (s.last + 2) ss h.2 i j d (omega arith) (omega arith)

-- no span is empty
pub ends_behind : (low : ℕ) (ss : List Span) → Fits low ss → (j : ℕ) (d : Span) → j < length ss → (get_or ss j d).first ≤ (get_or ss j d).last
ends_behind low [] h j d l = absurd (omega arith)
ends_behind low (s ∷ ss) h zero d l = h.1
ends_behind low (s ∷ ss) h (suc j) d l = ends_behind (s.last + 2) ss h.2 j d (omega arith)

-- the last lines of spans do not fall
pub lasts_rise : (ss : List Span) → AreMaximal ss → IsNonDecreasingBy (λ (s : Span). s.last) ss
lasts_rise ss h i j d ij l =
    let ends : (get_or ss j d).first ≤ (get_or ss j d).last = ends_behind 0 ss (Fits-from_maximal ss h) j d l in
    elim (cases_lt i j) [
      | inl lt ↦ omega (arith, ends_before 0 ss (Fits-from_maximal ss h) i j d lt l)
      | inr ge ↦ (let same : i ≡ j = omega arith in rw same (omega arith))
    ]

-- where the span at j ends before a line, each up to it does; where it begins no later, each before it ends before the line
pub all_before : (ss : List Span) → AreMaximal ss → (line j : ℕ) (d : Span) → j < length ss → (get_or ss j d).last < line → (k : ℕ) (e : Span) → k < j + 1 → (get_or ss k e).last < line
all_before ss h line j d l f k e kl =
    let ends : (get_or ss j d).first ≤ (get_or ss j d).last = ends_behind 0 ss (Fits-from_maximal ss h) j d l in
    let kn : k < length ss = omega arith in
    rw (get_or_default ss k e d kn) (elim (cases_lt k j) [
      | inl lt ↦ omega (arith, ends_before 0 ss (Fits-from_maximal ss h) k j d lt l)
      | inr ge ↦ (let same : k ≡ j = omega arith in rw same f)
    ])

pub all_before_first : (ss : List Span) → AreMaximal ss → (line j : ℕ) (d : Span) → j < length ss → (get_or ss j d).first ≤ line → (k : ℕ) (e : Span) → k < j → (get_or ss k e).last < line
all_before_first ss h line j d l f k e kl =
    let kn : k < length ss = omega arith in
    rw (get_or_default ss k e d kn) (omega (arith, ends_before 0 ss (Fits-from_maximal ss h) k j d kl l))

-- one line more behind numbers that are less, among numbers, and before greater ones
pub with_line-past : (line a n : ℕ) (ls : List ℕ) → a + n ≤ line → with_line line (range_with_len a n ++ ls) ≡ range_with_len a n ++ with_line line ls
with_line-past line a zero ls h = refl
with_line-past line a (suc n) ls h =
    rw (le-ltb line a (omega arith), ne_eqb line a (λ e. omega (arith, e))) (ap (λ (ms : List ℕ). a ∷ ms) (with_line-past line (a + 1) n ls (omega arith)))

pub with_line-among : (line a n : ℕ) (ls : List ℕ) → a ≤ line → line < a + n → with_line line (range_with_len a n ++ ls) ≡ range_with_len a n ++ ls
with_line-among line a zero ls h k = absurd (omega arith)
with_line-among line a (suc n) ls h k =
    elim (cases_eq line a) [
      | inl e ↦ rw (le-ltb line a (omega arith), eq-eqb line a e) refl
      | inr ne ↦ rw (le-ltb line a (omega arith), ne_eqb line a ne) (ap (λ (ms : List ℕ). a ∷ ms) (with_line-among line (a + 1) n ls (let ne' : line ≡ a → ⊥ = ne in omega arith) (omega arith)))
    ]

-- the numbers of a span that is not empty
pub span_lines-first : (s : Span) → s.first ≤ s.last → span_lines s ≡ s.first ∷ range_with_len (s.first + 1) (s.last - s.first)
span_lines-first s h =
    let e : s.last + 1 - s.first ≡ suc (s.last - s.first) = omega arith in
    ap (range_with_len s.first) e

pub range-append : (a n m : ℕ) → range_with_len a (n + m) ≡ range_with_len a n ++ range_with_len (a + n) m
range-append a zero m =
    let e : 0 + m ≡ m = omega arith in
    let f : a + 0 ≡ a = omega arith in
    rw (e, f) refl
range-append a (suc n) m =
    let e : suc n + m ≡ suc (n + m) = omega arith in
    let f : a + suc n ≡ a + 1 + n = omega arith in
    rw (e, f) (ap (λ (ls : List ℕ). a ∷ ls) (range-append (a + 1) n m))

pub with_line-before : (line low : ℕ) (ss : List Span) → Fits low ss → line < low → with_line line (lines ss) ≡ line ∷ lines ss
with_line-before line low [] h k = refl
with_line-before line low (s ∷ ss) h k =
    let begins : low ≤ s.first = h.0 in
    let e : line < s.first = omega arith in
    rw (span_lines-first s h.1, lt-ltb line s.first e) refl

pub with_line-behind : (line low : ℕ) (xs : List Span) (ls : List ℕ) → Fits low xs → bound low xs ≤ line + 1 → with_line line (lines xs ++ ls) ≡ lines xs ++ with_line line ls
with_line-behind line low [] ls h k = refl
with_line-behind line low (x ∷ xs) ls h k =
    let ends : x.first ≤ x.last = h.1 in
    let up : x.last + 2 ≤ bound (x.last + 2) xs = bound-le (x.last + 2) xs h.2 in
    ap (with_line line) (append_assoc (span_lines x) (lines xs) ls)
    ∙ (with_line-past line x.first (x.last + 1 - x.first) (lines xs ++ ls) (omega arith)
    ∙ (ap (λ (ms : List ℕ). span_lines x ++ ms) (with_line-behind line (x.last + 2) xs ls h.2 k)
    ∙ sym (append_assoc (span_lines x) (lines xs) (with_line line ls))))

pub Fits-take : (low n : ℕ) (ss : List Span) → Fits low ss → Fits low (take n ss)
Fits-take low zero ss h = tt
Fits-take low (suc n) [] h = tt
Fits-take low (suc n) (s ∷ ss) h = (h.0, h.1, Fits-take (s.last + 2) n ss h.2)
