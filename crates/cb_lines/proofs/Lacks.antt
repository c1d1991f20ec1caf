-- The lines of spans that a set lacks, span by span and stretch by stretch.
use Rattle.std.proofs.Common.{◌≡◌, ℕ, ◌+◌, ◌-◌, ◌<◌, ◌≤◌, Bool, true, false, not, cond, eqb, ◌||◌, ◌&&◌, List, [], ◌∷◌, ◌++◌, length, get_or, take, refl, sym, ap, ◌∙◌, subst, suc, inl, inr, arith, append-nil}
use Rattle.std.specs.List.{filter, flat_map, range_with_len}
use Rattle.std.specs.List.Sorted.{IsStrictlyIncreasing}
use Rattle.std.proofs.lemmas.Bool.{cases_Bool, cases_eq, cases_lt, eq-eqb, ne_eqb}
use Rattle.std.proofs.lemmas.List.Kept.{IsStrictlyIncreasing-filter}
use Rattle.std.proofs.lemmas.List.{take_more}
use Rattle.std.proofs.lemmas.List.Concat.{flat_map-append}
use Rattle.cb_lines.specs.declared.line_set.Span.{Span}
use Rattle.cb_lines.specs.Lines.{has_line, span_lines}
use Rattle.cb_lines.proofs.Members.{Rising, has-append, has-range_below, has-range_above, same_numbers}
use Rattle.cb_lines.proofs.SpanLists.{range-append}

ored : (b : Bool) → (b || false) ≡ b
ored true = refl
ored false = refl

anded : (b : Bool) → (b && true) ≡ b
anded true = refl
anded false = refl

-- lines of which all are held or none
one_more : (o a b held other : Bool) → (b ≡ true → other ≡ held) → ((o || (a && not other)) || (not held && b)) ≡ (o || ((a || b) && not other))
one_more true a b held other e = refl
one_more false true true held true e = (let s : true ≡ held = e refl in subst (λ (h : Bool). (not h && true) ≡ false) s refl)
one_more false true true held false e = refl
one_more false true false true other e = ored (not other)
one_more false true false false other e = ored (not other)
one_more false false true held other e = (let s : other ≡ held = e refl in subst (λ (h : Bool). (not h && true) ≡ not other) s (anded (not other)))
one_more false false false true other e = refl
one_more false false false false other e = refl

false_true : false ≡ true → ⊥
false_true e = cc

-- lines added last
pub added_last : (a b held : Bool) → held ≡ false → (a || b) ≡ (b || (not held && a))
added_last true true true e = refl
added_last true false true e = absurd (false_true (sym e))
added_last false b true e = sym (ored b)
added_last true true false e = refl
added_last true false false e = refl
added_last false b false e = sym (ored b)

-- a stretch more of a span
pub lacking_more : (from first last : ℕ) (held : Bool) (old now new other : List ℕ) → from ≤ first → first ≤ last
    → ((line : ℕ) → has_line now line ≡ (has_line old line || (has_line (range_with_len from (first - from)) line && not (has_line other line))))
    → ((line : ℕ) → first ≤ line → line ≤ last → has_line other line ≡ held)
    → ((line : ℕ) → has_line new line ≡ (has_line now line || (not held && has_line (range_with_len first (last + 1 - first)) line)))
    → (line : ℕ) → has_line new line ≡ (has_line old line || (has_line (range_with_len from (last + 1 - from)) line && not (has_line other line)))
lacking_more from first last held old now new other ff fl was alike added line =
    let n : last + 1 - from ≡ (first - from) + (last + 1 - first) = omega arith in
    let a : from + (first - from) ≡ first = omega arith in
    let all : has_line (range_with_len from (last + 1 - from)) line ≡ (has_line (range_with_len from (first - from)) line || has_line (range_with_len first (last + 1 - first)) line) =
    ap (λ (n : ℕ). has_line (range_with_len from n) line) n
    ∙ (ap (λ (xs : List ℕ). has_line xs line) (range-append from (first - from) (last + 1 - first))
    ∙ (has-append (range_with_len from (first - from)) (range_with_len (from + (first - from)) (last + 1 - first)) line
    ∙ ap (λ (a : ℕ). has_line (range_with_len from (first - from)) line || has_line (range_with_len a (last + 1 - first)) line) a)) in
    let same : has_line (range_with_len first (last + 1 - first)) line ≡ true → has_line other line ≡ held = λ h.
    elim (cases_lt line first) [
      | inl lt ↦ absurd (false_true (sym (has-range_below first (last + 1 - first) line lt) ∙ h))
      | inr ge ↦ elim (cases_lt last line) [
        | inl lt ↦ absurd (false_true (sym (has-range_above first (last + 1 - first) line (omega arith)) ∙ h))
        | inr le ↦ alike line ge le
      ]
    ] in
    added line
    ∙ (ap (λ (b : Bool). b || (not held && has_line (range_with_len first (last + 1 - first)) line)) (was line)
    ∙ (one_more (has_line old line) (has_line (range_with_len from (first - from)) line) (has_line (range_with_len first (last + 1 - first)) line) held (has_line other line) same
    ∙ ap (λ (b : Bool). has_line old line || (b && not (has_line other line))) (sym all)))

anded_false : (b : Bool) → (b && false) ≡ false
anded_false true = refl
anded_false false = refl

two : (a b t : Bool) → ((a && not t) || (b && not t)) ≡ ((a || b) && not t)
two true b true = anded_false b
two true b false = refl
two false b t = refl

-- a span more of a set
pub lacking_span : (ss : List Span) (i : ℕ) (d : Span) (other now new : List ℕ) → i < length ss
    → ((line : ℕ) → has_line now line ≡ (has_line (flat_map span_lines (take i ss)) line && not (has_line other line)))
    → ((line : ℕ) → has_line new line ≡ (has_line now line || (has_line (span_lines (get_or ss i d)) line && not (has_line other line))))
    → (line : ℕ) → has_line new line ≡ (has_line (flat_map span_lines (take (i + 1) ss)) line && not (has_line other line))
lacking_span ss i d other now new h was added line =
    let all : has_line (flat_map span_lines (take (i + 1) ss)) line ≡ (has_line (flat_map span_lines (take i ss)) line || has_line (span_lines (get_or ss i d)) line) =
    ap (λ (xs : List Span). has_line (flat_map span_lines xs) line) (take_more ss i d h)
    ∙ (ap (λ (xs : List ℕ). has_line xs line) (flat_map-append span_lines (take i ss) (get_or ss i d ∷ []) ∙ ap (λ (xs : List ℕ). flat_map span_lines (take i ss) ++ xs) (append-nil (span_lines (get_or ss i d))))
    ∙ has-append (flat_map span_lines (take i ss)) (span_lines (get_or ss i d)) line) in
    added line
    ∙ (ap (λ (b : Bool). b || (has_line (span_lines (get_or ss i d)) line && not (has_line other line))) (was line)
    ∙ (two (has_line (flat_map span_lines (take i ss)) line) (has_line (span_lines (get_or ss i d)) line) (has_line other line)
    ∙ ap (λ (b : Bool). b && not (has_line other line)) (sym all)))

Rising-first : (low x : ℕ) (xs : List ℕ) → low ≤ x → IsStrictlyIncreasing (x ∷ xs) → Rising low (x ∷ xs)
Rising-first low x [] le up = (le, tt)
Rising-first low x (y ∷ xs) le up =
    let next : x < y = up 0 (omega arith) in
    let later = λ (k : ℕ) (l : k + 1 < length (y ∷ xs)).
    let e : suc k + 1 ≡ suc (k + 1) = omega arith in
    subst (λ (n : ℕ). get_or (y ∷ xs) k 0 < get_or (x ∷ y ∷ xs) n 0) e (up (suc k) (omega arith)) in
    (le, Rising-first (x + 1) y xs (omega arith) later)

pub Rising-from_increasing : (xs : List ℕ) → IsStrictlyIncreasing xs → Rising 0 xs
Rising-from_increasing [] up = tt
Rising-from_increasing (x ∷ xs) up = Rising-first 0 x xs (omega arith) up

passing : (x line : ℕ) (p : ℕ → Bool) → p x ≡ true → (eqb x line || false) ≡ (eqb x line && p line)
passing x line p e =
    elim (cases_eq x line) [
      | inl same ↦ rw (eq-eqb x line same) (sym e ∙ ap p same)
      | inr differ ↦ rw (ne_eqb x line differ) refl
    ]

failing : (x line : ℕ) (p : ℕ → Bool) → p x ≡ false → false ≡ (eqb x line && p line)
failing x line p e =
    elim (cases_eq x line) [
      | inl same ↦ rw (eq-eqb x line same) (sym e ∙ ap p same)
      | inr differ ↦ rw (ne_eqb x line differ) refl
    ]

both_of : (a b q : Bool) → ((a && q) || (b && q)) ≡ ((a || b) && q)
both_of true true true = refl
both_of true false true = refl
both_of true b false = anded_false b
both_of false b q = refl

has-filter : (p : ℕ → Bool) (xs : List ℕ) (line : ℕ) → has_line (filter p xs) line ≡ (has_line xs line && p line)
has-filter p [] line = refl
has-filter p (x ∷ xs) line =
    elim (cases_Bool (p x)) [
      | inl yes' ↦ (
          ap (λ (b : Bool). has_line (cond b (x ∷ filter p xs) (filter p xs)) line) yes'
          ∙ (ap (λ (b : Bool). eqb x line || b) (has-filter p xs line)
          ∙ (ap (λ (b : Bool). b || (has_line xs line && p line)) (sym (ored (eqb x line)) ∙ passing x line p yes')
          ∙ both_of (eqb x line) (has_line xs line) (p line)))
          )
      | inr no' ↦ (
          ap (λ (b : Bool). has_line (cond b (x ∷ filter p xs) (filter p xs)) line) no'
          ∙ (has-filter p xs line
          ∙ (ap (λ (b : Bool). b || (has_line xs line && p line)) (failing x line p no')
          ∙ both_of (eqb x line) (has_line xs line) (p line)))
          )
    ]

-- rising numbers that are those of a set which another lacks
pub lacking_all : (all other rest : List ℕ) → IsStrictlyIncreasing all → IsStrictlyIncreasing rest
    → ((line : ℕ) → has_line rest line ≡ (has_line all line && not (has_line other line)))
    → rest ≡ filter (λ (line : ℕ). not (has_line other line)) all
lacking_all all other rest up rises same =
    same_numbers 0 rest (filter (λ (line : ℕ). not (has_line other line)) all) (Rising-from_increasing rest rises)
    (Rising-from_increasing (filter (λ (line : ℕ). not (has_line other line)) all) (IsStrictlyIncreasing-filter (λ (line : ℕ). not (has_line other line)) all up))
    (λ line. same line ∙ sym (has-filter (λ (line : ℕ). not (has_line other line)) all line))
