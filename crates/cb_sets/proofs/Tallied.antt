-- Rows as contracts see them, with lines more.
use Rattle.std.proofs.Common.{◌≡◌, ℕ, ◌+◌, ◌-◌, ◌<◌, ◌≤◌, Bool, true, false, cond, ◌&&◌, ◌||◌, List, [], ◌∷◌, ◌++◌, length, get_or, take, drop, map, refl, sym, ap, ◌∙◌, subst, suc, zero, inl, inr, arith, append-nil}
use Rattle.std.specs.List.{flat_map, range_with_len, sum_by, count_by}
use Rattle.std.specs.Str.{bytes_eq}
use Rattle.std.proofs.lemmas.Bool.{cases_Bool}
use Rattle.std.proofs.lemmas.List.{map-append, take_more, take-append-drop, length-append}
use Rattle.std.proofs.lemmas.List.Sums.{sum_by-append, sum_by-cons, sum_by_push, sum_by-le-sum_by}
use Rattle.std.proofs.lemmas.List.Concat.{flat_map-append}
use Rattle.std.proofs.lemmas.List.FromFn.{length-range_with_len}
use Rattle.std.proofs.lemmas.Slice.Eq.{bytes_eq-Decides}
use Rattle.cb_lines.specs.declared.line_set.Span.{Span}
use Rattle.cb_lines.specs.Lines.{has_line, span_lines, AreMaximal}
use Rattle.cb_sets.specs.declared.row.Row.{Row}
use Rattle.cb_sets.specs.Sets.{precedes}
use Rattle.cb_sets.specs.inner.Rows.{seen}
use Rattle.cb_sets.specs.Tallies.{SetLines, users, with_count, with_counted, lines_in, lines_where, is_any}

pub eq_itself : (xs : List ℕ) → bytes_eq xs xs ≡ true
eq_itself xs = (bytes_eq-Decides xs xs).1 refl

one_row : (test : List ℕ → Bool) (m : List ℕ) (n : ℕ) → lines_where test (record { members = m; lines = n } ∷ []) ≡ cond (test m) n 0
one_row test m n = sum_by-cons (lines_in test) (record { members = m; lines = n }) [] ∙ omega arith

more_in : (test : List ℕ → Bool) (r : SetLines) (n : ℕ) → lines_in test (record { members = r.members; lines = r.lines + n }) ≡ lines_in test r + cond (test r.members) n 0
more_in test r n =
    elim (cases_Bool (test r.members)) [
      | inl yes' ↦ rw yes' refl
      | inr no' ↦ rw no' (omega arith)
    ]

pub where-with_count : (test : List ℕ → Bool) (m : List ℕ) (n : ℕ) (rows : List SetLines) → lines_where test (with_count m n rows) ≡ lines_where test rows + cond (test m) n 0
where-with_count test m n [] = one_row test m n ∙ omega arith
where-with_count test m n (r ∷ rs) =
    let all : lines_where test (r ∷ rs) ≡ lines_in test r + lines_where test rs = sum_by-cons (lines_in test) r rs in
    elim (cases_Bool (bytes_eq m r.members)) [
      | inl yes' ↦ (
          let same : m ≡ r.members = (bytes_eq-Decides m r.members).0 yes' in
          let more = more_in test r n in
          let made : lines_where test (record { members = r.members; lines = r.lines + n } ∷ rs) ≡ lines_in test (record { members = r.members; lines = r.lines + n }) + lines_where test rs =
          sum_by-cons (lines_in test) (record { members = r.members; lines = r.lines + n }) rs in
          let tested : cond (test m) n 0 ≡ cond (test r.members) n 0 = ap (λ (xs : List ℕ). cond (test xs) n 0) same in
          rw yes' (omega (arith, all, more, made, tested))
          )
      | inr no' ↦ elim (cases_Bool (precedes m r.members)) [
        | inl first ↦ (
            let made : lines_where test (record { members = m; lines = n } ∷ r ∷ rs) ≡ cond (test m) n 0 + lines_where test (r ∷ rs) = sum_by-cons (lines_in test) (record { members = m; lines = n }) (r ∷ rs) in
            rw (no', first) (omega (arith, made))
            )
        | inr later ↦ (
            let made : lines_where test (r ∷ with_count m n rs) ≡ lines_in test r + lines_where test (with_count m n rs) = sum_by-cons (lines_in test) r (with_count m n rs) in
            rw (no', later) (omega (arith, made, all, where-with_count test m n rs))
            )
      ]
    ]

pub where-with_counted : (test : List ℕ → Bool) (used : List (List ℕ)) (xs : List ℕ) (rows : List SetLines)
    → lines_where test (with_counted used xs rows) ≡ lines_where test rows + count_by (λ (line : ℕ). test (users used line)) xs
where-with_counted test used [] rows = omega arith
where-with_counted test used (x ∷ xs) rows =
    let rest = where-with_counted test used xs (with_count (users used x) 1 rows) in
    let one = where-with_count test (users used x) 1 rows in
    let counts : count_by (λ (line : ℕ). test (users used line)) (x ∷ xs) ≡ cond (test (users used x)) 1 0 + count_by (λ (line : ℕ). test (users used line)) xs =
    sum_by-cons (λ (line : ℕ). cond (test (users used line)) 1 0) x xs in
    omega (arith, rest, one, counts)

count_any : (used : List (List ℕ)) (xs : List ℕ) → count_by (λ (line : ℕ). is_any (users used line)) xs ≡ length xs
count_any used [] = refl
count_any used (x ∷ xs) = sum_by-cons (λ (line : ℕ). cond (is_any (users used line)) 1 0) x xs ∙ omega (arith, count_any used xs)

pub all-with_counted : (used : List (List ℕ)) (xs : List ℕ) (rows : List SetLines) → lines_where is_any (with_counted used xs rows) ≡ lines_where is_any rows + length xs
all-with_counted used xs rows = where-with_counted is_any used xs rows ∙ ap (λ (n : ℕ). lines_where is_any rows + n) (count_any used xs)

pub with_counted-append : (used : List (List ℕ)) (xs ys : List ℕ) (rows : List SetLines) → with_counted used (xs ++ ys) rows ≡ with_counted used ys (with_counted used xs rows)
with_counted-append used [] ys rows = refl
with_counted-append used (x ∷ xs) ys rows = with_counted-append used xs ys (with_count (users used x) 1 rows)

-- lines of one set, added in two goes
count_twice : (m : List ℕ) (n k : ℕ) (rows : List SetLines) → with_count m n (with_count m k rows) ≡ with_count m (k + n) rows
count_twice m n k [] = rw (eq_itself m) refl
count_twice m n k (r ∷ rs) =
    elim (cases_Bool (bytes_eq m r.members)) [
      | inl yes' ↦ rw yes' (rw yes' (let e : r.lines + k + n ≡ r.lines + (k + n) = omega arith in ap (λ (l : ℕ). record { members = r.members; lines = l } ∷ rs) e))
      | inr no' ↦ elim (cases_Bool (precedes m r.members)) [
        | inl first ↦ rw (no', first) (rw (eq_itself m) refl)
        | inr later ↦ rw (no', later) (rw (no', later) (ap (λ rs. r ∷ rs) (count_twice m n k rs)))
      ]
    ]

-- lines that the same platforms use
pub counted_alike : (used : List (List ℕ)) (m : List ℕ) (n a : ℕ) (rows : List SetLines) → ((line : ℕ) → a ≤ line → line < a + suc n → users used line ≡ m)
    → with_counted used (range_with_len a (suc n)) rows ≡ with_count m (suc n) rows
counted_alike used m zero a rows same = ap (λ (xs : List ℕ). with_count xs 1 rows) (same a (omega arith) (omega arith))
counted_alike used m (suc n) a rows same =
    let e : 1 + suc n ≡ suc (suc n) = omega arith in
    ap (λ (xs : List ℕ). with_counted used (range_with_len (a + 1) (suc n)) (with_count xs 1 rows)) (same a (omega arith) (omega arith))
    ∙ (counted_alike used m n (a + 1) (with_count m 1 rows) (λ line le lt. same line (omega arith) (omega arith))
    ∙ (count_twice m (suc n) 1 rows ∙ ap (λ (k : ℕ). with_count m k rows) e))

pub where_within : (test : List ℕ → Bool) (rows : List SetLines) → lines_where test rows ≤ lines_where is_any rows
where_within test rows = sum_by-le-sum_by (lines_in test) (lines_in is_any) rows (λ r. elim (cases_Bool (test r.members)) [ inl yes' ↦ rw yes' (omega arith) | inr no' ↦ rw no' (omega arith) ])

-- counts over rows as they are kept
pub kept_more : (test : List ℕ → Bool) (rows : List Row) (i : ℕ) (d : Row) → i < length rows
    → lines_where test (map seen (take (i + 1) rows)) ≡ lines_where test (map seen (take i rows)) + lines_in test (seen (get_or rows i d))
kept_more test rows i d h =
    ap (λ (xs : List Row). lines_where test (map seen xs)) (take_more rows i d h)
    ∙ (ap (lines_where test) (map-append seen (take i rows) (get_or rows i d ∷ [])) ∙ sum_by_push (lines_in test) (map seen (take i rows)) (seen (get_or rows i d)))

pub kept_front : (test : List ℕ → Bool) (rows : List Row) (i : ℕ) → lines_where test (map seen (take i rows)) ≤ lines_where test (map seen rows)
kept_front test rows i =
    subst (λ (n : ℕ). lines_where test (map seen (take i rows)) ≤ n)
    (ap (lines_where test) (sym (map-append seen (take i rows) (drop i rows)) ∙ ap (λ (xs : List Row). map seen xs) (take-append-drop i rows)))
    (subst (λ (n : ℕ). lines_where test (map seen (take i rows)) ≤ n) (sym (sum_by-append (lines_in test) (map seen (take i rows)) (map seen (drop i rows)))) (omega arith))

-- a row has no more lines than all of them
pub kept_row : (rows : List Row) (i : ℕ) (d : Row) → i < length rows → (get_or rows i d).lines ≤ lines_where is_any (map seen rows)
kept_row rows i d h = omega (arith, kept_more is_any rows i d h, kept_front is_any rows (i + 1))

pub in_within : (test : List ℕ → Bool) (r : SetLines) → lines_in test r ≤ r.lines
in_within test r = elim (cases_Bool (test r.members)) [ inl yes' ↦ rw yes' (omega arith) | inr no' ↦ rw no' (omega arith) ]

range-append : (a n m : ℕ) → range_with_len a (n + m) ≡ range_with_len a n ++ range_with_len (a + n) m
range-append a zero m =
    let e : 0 + m ≡ m = omega arith in
    let f : a + 0 ≡ a = omega arith in
    rw (e, f) refl
range-append a (suc n) m =
    let e : suc n + m ≡ suc (n + m) = omega arith in
    let f : a + suc n ≡ a + 1 + n = omega arith in
    rw (e, f) (ap (λ (ls : List ℕ). a ∷ ls) (range-append (a + 1) n m))

pub sum_more : (f : ℕ → ℕ) (i : ℕ) → sum_by f (range_with_len 1 (i + 1)) ≡ sum_by f (range_with_len 1 i) + f (i + 1)
sum_more f i =
    let e : 1 + i ≡ i + 1 = omega arith in
    ap (sum_by f) (range-append 1 i 1) ∙ (sum_by_push f (range_with_len 1 i) (1 + i) ∙ ap (λ (n : ℕ). sum_by f (range_with_len 1 i) + f n) e)

-- lines of one part more of a span
pub part_added : (used : List (List ℕ)) (from first last n : ℕ) (m : List ℕ) (old now new : List SetLines) → from ≤ first → first ≤ last → n ≡ last - first
    → now ≡ with_counted used (range_with_len from (first - from)) old → ((line : ℕ) → first ≤ line → line ≤ last → users used line ≡ m)
    → new ≡ with_count m (n + 1) now → new ≡ with_counted used (range_with_len from (last + 1 - from)) old
part_added used from first last n m old now new ff fl is was same made =
    let one : n + 1 ≡ suc (last - first) = omega arith in
    let a : from + (first - from) ≡ first = omega arith in
    let all : (first - from) + suc (last - first) ≡ last + 1 - from = omega arith in
    let lines : List ℕ = range_with_len first (suc (last - first)) in
    made
    ∙ (ap (λ (k : ℕ). with_count m k now) one
    ∙ (sym (counted_alike used m (last - first) first now (λ line le lt. same line le (omega arith)))
    ∙ (ap (with_counted used lines) was
    ∙ (sym (with_counted-append used (range_with_len from (first - from)) lines old)
    ∙ (ap (λ (b : ℕ). with_counted used (range_with_len from (first - from) ++ range_with_len b (suc (last - first))) old) (sym a)
    ∙ (ap (λ (xs : List ℕ). with_counted used xs old) (sym (range-append from (first - from) (suc (last - first))))
    ∙ ap (λ (k : ℕ). with_counted used (range_with_len from k) old) all))))))

-- what is counted before a part, and with it
pub part_fits : (used : List (List ℕ)) (span : Span) (first last : ℕ) (old now : List SetLines) → span.first ≤ first → first ≤ last → last ≤ span.last
    → now ≡ with_counted used (range_with_len span.first (first - span.first)) old → lines_where is_any old + length (span_lines span) < 4294967296
    → lines_where is_any now + (last - first + 1) < 4294967296
part_fits used span first last old now sf fl ls was fits =
    let all = all-with_counted used (range_with_len span.first (first - span.first)) old in
    omega (arith, ap (lines_where is_any) was, all, length-range_with_len span.first (first - span.first), length-range_with_len span.first (span.last + 1 - span.first))

pub spans_full : (ss : List Span) → AreMaximal ss → (j : ℕ) (d : Span) → j < length ss → (get_or ss j d).first ≤ (get_or ss j d).last
spans_full [] h j d l = absurd (omega arith)
spans_full (s ∷ []) h zero d l = h
spans_full (s ∷ []) h (suc j) d l = absurd (omega arith)
spans_full (s ∷ t ∷ ss) h zero d l = h.0
spans_full (s ∷ t ∷ ss) h (suc j) d l = spans_full (t ∷ ss) h.2 j d (omega arith)

pub span_more : (ss : List Span) (i : ℕ) (d : Span) → i < length ss → flat_map span_lines (take (i + 1) ss) ≡ flat_map span_lines (take i ss) ++ span_lines (get_or ss i d)
span_more ss i d h =
    ap (λ (xs : List Span). flat_map span_lines xs) (take_more ss i d h)
    ∙ (flat_map-append span_lines (take i ss) (get_or ss i d ∷ []) ∙ ap (λ (xs : List ℕ). flat_map span_lines (take i ss) ++ xs) (append-nil (span_lines (get_or ss i d))))

pub front_short : (ss : List Span) (i : ℕ) → length (flat_map span_lines (take i ss)) ≤ length (flat_map span_lines ss)
front_short ss i =
    let all : length (flat_map span_lines ss) ≡ length (flat_map span_lines (take i ss)) + length (flat_map span_lines (drop i ss)) =
    ap (λ (xs : List Span). length (flat_map span_lines xs)) (sym (take-append-drop i ss))
    ∙ (ap length (flat_map-append span_lines (take i ss) (drop i ss)) ∙ length-append (flat_map span_lines (take i ss)) (flat_map span_lines (drop i ss))) in
    omega (arith, all)

-- what is counted before a span, and with it
pub span_fits : (used : List (List ℕ)) (ss : List Span) (counted : List ℕ) (i : ℕ) (d : Span) (old now : List SetLines) → i < length ss → flat_map span_lines ss ≡ counted
    → now ≡ with_counted used (flat_map span_lines (take i ss)) old → lines_where is_any old + length counted < 4294967296
    → lines_where is_any now + length (span_lines (get_or ss i d)) < 4294967296
span_fits used ss counted i d old now h is was fits =
    let front = front_short ss (i + 1) in
    let more : length (flat_map span_lines (take (i + 1) ss)) ≡ length (flat_map span_lines (take i ss)) + length (span_lines (get_or ss i d)) =
    ap length (span_more ss i d h) ∙ length-append (flat_map span_lines (take i ss)) (span_lines (get_or ss i d)) in
    omega (arith, ap (lines_where is_any) was, all-with_counted used (flat_map span_lines (take i ss)) old, front, more, ap length is)

pub span_added : (used : List (List ℕ)) (ss : List Span) (i : ℕ) (d : Span) (old now new : List SetLines) → i < length ss
    → now ≡ with_counted used (flat_map span_lines (take i ss)) old → new ≡ with_counted used (span_lines (get_or ss i d)) now
    → new ≡ with_counted used (flat_map span_lines (take (i + 1) ss)) old
span_added used ss i d old now new h was made =
    made
    ∙ (ap (with_counted used (span_lines (get_or ss i d))) was
    ∙ (sym (with_counted-append used (flat_map span_lines (take i ss)) (span_lines (get_or ss i d)) old)
    ∙ ap (λ (xs : List ℕ). with_counted used xs old) (sym (span_more ss i d h))))

either_way : (a b : Bool) (n : ℕ) → cond (a && b) n 0 ≤ cond (a || b) n 0
either_way true true n = omega arith
either_way true false n = omega arith
either_way false b n = omega arith

pub both_within : (i j : ℕ) (rows : List SetLines) → lines_where (λ set. has_line set i && has_line set j) rows ≤ lines_where (λ set. has_line set i || has_line set j) rows
both_within i j rows =
    sum_by-le-sum_by (lines_in (λ set. has_line set i && has_line set j)) (lines_in (λ set. has_line set i || has_line set j)) rows (λ r. either_way (has_line r.members i) (has_line r.members j) r.lines)
