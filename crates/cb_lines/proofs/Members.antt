-- Rising lists of numbers are known by the numbers that they hold.
use Rattle.std.proofs.Common.{◌≡◌, ℕ, ◌+◌, ◌-◌, ◌<◌, ◌≤◌, Bool, true, false, ◌||◌, eqb, IsTrue, ◌↔◌, List, [], ◌∷◌, ◌++◌, length, get_or, take, drop, refl, sym, ap, ◌∙◌, subst, suc, zero, inl, inr, arith}
use Rattle.std.specs.List.{range_with_len}
use Rattle.std.specs.List.Sorted.{IsStrictlyIncreasing}
use Rattle.std.proofs.lemmas.Bool.{cases_Bool, cases_eq, cases_lt, cases_order, le-ltb, lt-ltb, ne_eqb, eq-eqb, false≢true}
use Rattle.std.proofs.lemmas.List.{length-append, length-take, get_or-take, take-append-drop, take_more, drop_more, drop_all}
use Rattle.std.proofs.lemmas.List.Concat.{flat_map-append}
use Rattle.std.proofs.lemmas.List.FromFn.{length-range_with_len}
use Rattle.cb_lines.specs.declared.line_set.Span.{Span}
use Rattle.cb_lines.specs.Lines.{with_line, has_line, union_of, span_lines, AreMaximal}
use Rattle.cb_lines.proofs.SpanLists.{lines, Fits, Fits-right, Fits-from_maximal, bound}

-- numbers that rise, none below a bound
abbrev pub Rising : ℕ → List ℕ → Type 0
Rising low [] = Unit {0}
Rising low (l ∷ ls) = (low ≤ l) × Rising (l + 1) ls

pub Rising-weaker : (low high : ℕ) (ls : List ℕ) → low ≤ high → Rising high ls → Rising low ls
Rising-weaker low high [] le h = tt
Rising-weaker low high (l ∷ ls) le h =
    let begins : high ≤ l = h.0 in
    (omega arith, h.1)

Rising-range : (low a n : ℕ) (ls : List ℕ) → low ≤ a → Rising (a + n) ls → Rising low (range_with_len a n ++ ls)
Rising-range low a zero ls le h = Rising-weaker low (a + 0) ls (omega arith) h
Rising-range low a (suc n) ls le h =
    let e : a + suc n ≡ a + 1 + n = omega arith in
    (le, Rising-range (a + 1) (a + 1) n ls (omega arith) (subst (λ (m : ℕ). Rising m ls) e h))

pub Rising-lines : (low : ℕ) (ss : List Span) → Fits low ss → Rising low (lines ss)
Rising-lines low [] h = tt
Rising-lines low (s ∷ ss) h =
    let ends : s.first ≤ s.last = h.1 in
    Rising-range low s.first (s.last + 1 - s.first) (lines ss) h.0 (Rising-weaker (s.first + (s.last + 1 - s.first)) (s.last + 2) (lines ss) (omega arith) (Rising-lines (s.last + 2) ss h.2))

pub increasing_from_rising : (low : ℕ) (ls : List ℕ) → Rising low ls → IsStrictlyIncreasing ls
increasing_from_rising low [] h k l = absurd (omega arith)
increasing_from_rising low (x ∷ []) h k l = absurd (omega arith)
increasing_from_rising low (x ∷ y ∷ ls) h zero l = (let w : x + 1 ≤ y = h.1.0 in omega arith)
increasing_from_rising low (x ∷ y ∷ ls) h (suc k) l =
    let e : suc k + 1 ≡ suc (k + 1) = omega arith in
    let w : get_or (y ∷ ls) k 0 < get_or (y ∷ ls) (k + 1) 0 = increasing_from_rising (x + 1) (y ∷ ls) h.1 k (omega arith) in
    subst (λ (n : ℕ). get_or (x ∷ y ∷ ls) (suc k) 0 < get_or (x ∷ y ∷ ls) n 0) (sym e) w

pub has-below : (low : ℕ) (ls : List ℕ) (l : ℕ) → Rising low ls → l < low → has_line ls l ≡ false
has-below low [] l h lt = refl
has-below low (x ∷ ls) l h lt =
    let begins : low ≤ x = h.0 in
    rw (ne_eqb x l (λ e. omega (arith, e))) (has-below (x + 1) ls l h.1 (omega arith))

or_assoc : (x y z : Bool) → (x || (y || z)) ≡ ((x || y) || z)
or_assoc true y z = refl
or_assoc false y z = refl

pub has-append : (xs ys : List ℕ) (l : ℕ) → has_line (xs ++ ys) l ≡ (has_line xs l || has_line ys l)
has-append [] ys l = refl
has-append (x ∷ xs) ys l = rw (has-append xs ys l) (or_assoc (eqb x l) (has_line xs l) (has_line ys l))

pub has-range_below : (a n l : ℕ) → l < a → has_line (range_with_len a n) l ≡ false
has-range_below a zero l h = refl
has-range_below a (suc n) l h = rw (ne_eqb a l (λ e. omega (arith, e))) (has-range_below (a + 1) n l (omega arith))

pub has-range_above : (a n l : ℕ) → a + n ≤ l → has_line (range_with_len a n) l ≡ false
has-range_above a zero l h = refl
has-range_above a (suc n) l h = rw (ne_eqb a l (λ e. omega (arith, e))) (has-range_above (a + 1) n l (omega arith))

pub has-range_among : (a n l : ℕ) → a ≤ l → l < a + n → has_line (range_with_len a n) l ≡ true
has-range_among a zero l h k = absurd (omega arith)
has-range_among a (suc n) l h k =
    elim (cases_eq a l) [
      | inl e ↦ rw (eq-eqb a l e) refl
      | inr ne ↦ (let apart : a ≡ l → ⊥ = ne in rw (ne_eqb a l ne) (has-range_among (a + 1) n l (omega arith) (omega arith)))
    ]

has-ended : (s : Span) (l : ℕ) → s.last < l → has_line (span_lines s) l ≡ false
has-ended s l ends =
    elim (cases_lt l s.first) [
      | inl lt ↦ has-range_below s.first (s.last + 1 - s.first) l lt
      | inr ge ↦ has-range_above s.first (s.last + 1 - s.first) l (omega arith)
    ]

-- where all of the spans end before the number, or begin behind it
pub has-before : (ss : List Span) (l : ℕ) → ((k : ℕ) (d : Span) → k < length ss → (get_or ss k d).last < l) → has_line (lines ss) l ≡ false
has-before [] l h = refl
has-before (s ∷ ss) l h =
    let ends : s.last < l = h 0 s (omega arith) in
    has-append (span_lines s) (lines ss) l
    ∙ rw (has-ended s l ends) (has-before ss l (λ k d kl. h (suc k) d (omega arith)))

pub has-behind : (low : ℕ) (ss : List Span) (l : ℕ) → Fits low ss → l < low → has_line (lines ss) l ≡ false
has-behind low ss l h lt = has-below low (lines ss) l (Rising-lines low ss h) lt

pub has-first : (s : Span) (ss : List Span) (l : ℕ) → s.first ≤ l → l ≤ s.last → has_line (lines (s ∷ ss)) l ≡ true
has-first s ss l begins ends =
    has-append (span_lines s) (lines ss) l ∙ rw (has-range_among s.first (s.last + 1 - s.first) l begins (omega arith)) refl

-- whether spans hold a number, by the place that it has among them
pub has_at : (ss : List Span) (p l : ℕ) (b : Bool) → AreMaximal ss → ((k : ℕ) (d : Span) → k < p → (get_or ss k d).last < l) → ((k : ℕ) (d : Span) → p ≤ k → k < length ss → l ≤ (get_or ss k d).last) → (IsTrue b ↔ ((p < length ss) × ((get_or ss p (record { first = 0; last = 0 })).first ≤ l))) → b ≡ has_line (lines ss) l
has_at ss p l b maximal before behind test =
    let front : has_line (lines (take p ss)) l ≡ false = has-before (take p ss) l (λ k d kl. let kp : k < p = omega (arith, length-take p ss) in rw (get_or-take p ss k d kp) (before k d kp)) in
    let cut : has_line (lines ss) l ≡ has_line (lines (drop p ss)) l =
    ap (λ (xs : List Span). has_line (lines xs) l) (sym (take-append-drop p ss))
    ∙ (ap (λ (ls : List ℕ). has_line ls l) (flat_map-append span_lines (take p ss) (drop p ss))
    ∙ (has-append (lines (take p ss)) (lines (drop p ss)) l ∙ rw front refl)) in
    elim (cases_Bool b) [
      | inl yes' ↦ (
          let h = test.0 yes' in
          yes' ∙ sym (cut ∙ rw (drop_more ss p (record { first = 0; last = 0 }) h.0) (has-first (get_or ss p (record { first = 0; last = 0 })) (drop (p + 1) ss) l h.1 (behind p (record { first = 0; last = 0 }) (omega arith) h.0)))
          )
      | inr no' ↦ no' ∙ sym (cut ∙ elim (cases_lt p (length ss)) [
        | inl pl ↦ (
            let first : ℕ = (get_or ss p (record { first = 0; last = 0 })).first in
            let beyond : l < first = elim (cases_lt l first) [ inl lt ↦ lt | inr ge ↦ absurd (false≢true (sym no' ∙ test.1 (pl, ge))) ] in
            let right = Fits-right 0 (take p ss) (drop p ss) (subst (Fits 0) (sym (take-append-drop p ss)) (Fits-from_maximal ss maximal)) in
            let right' : Fits (bound 0 (take p ss)) (get_or ss p (record { first = 0; last = 0 }) ∷ drop (p + 1) ss) = subst (Fits (bound 0 (take p ss))) (drop_more ss p (record { first = 0; last = 0 }) pl) right in
            rw (drop_more ss p (record { first = 0; last = 0 }) pl) (has-behind first (get_or ss p (record { first = 0; last = 0 }) ∷ drop (p + 1) ss) l (omega arith, right'.1, right'.2) beyond)
            )
        | inr ge ↦ rw (drop_all p ss ge) refl
      ])
    ]

-- how many numbers spans hold
pub length-lines_more : (ss : List Span) (i : ℕ) (d : Span) → i < length ss → length (lines (take (i + 1) ss)) ≡ length (lines (take i ss)) + ((get_or ss i d).last + 1 - (get_or ss i d).first)
length-lines_more ss i d l =
    let s : Span = get_or ss i d in
    ap (λ (xs : List Span). length (lines xs)) (take_more ss i d l)
    ∙ (ap length (flat_map-append span_lines (take i ss) (s ∷ []))
    ∙ (length-append (lines (take i ss)) (span_lines s ++ [])
    ∙ ap (λ (n : ℕ). length (lines (take i ss)) + n) (length-append (span_lines s) [] ∙ omega (arith, length-range_with_len s.first (s.last + 1 - s.first)))))

pub length-lines-le : (low : ℕ) (ss : List Span) → Fits low ss → length (lines ss) + low ≤ bound low ss
length-lines-le low [] h = omega arith
length-lines-le low (s ∷ ss) h =
    let begins : low ≤ s.first = h.0 in
    let ends : s.first ≤ s.last = h.1 in
    omega (arith, length-append (span_lines s) (lines ss), length-range_with_len s.first (s.last + 1 - s.first), length-lines-le (s.last + 2) ss h.2)

or_same : (x y : Bool) → (x || y) ≡ (x || (x || y))
or_same true y = refl
or_same false y = refl

or_swap : (x y z : Bool) → (x || (y || z)) ≡ (y || (x || z))
or_swap true true z = refl
or_swap true false z = refl
or_swap false true z = refl
or_swap false false z = refl

-- one number more, and the numbers of one set more
pub has-with_line : (x : ℕ) (ls : List ℕ) (l : ℕ) → has_line (with_line x ls) l ≡ (eqb x l || has_line ls l)
has-with_line x [] l = refl
has-with_line x (y ∷ ls) l =
    elim (cases_order x y) [
      | inl same ↦ rw (le-ltb x y (omega arith), eq-eqb x y same) (rw same (or_same (eqb y l) (has_line ls l)))
      | inr differ ↦ elim differ [
        | inl lt ↦ rw (lt-ltb x y lt) refl
        | inr gt ↦ rw (le-ltb x y (omega arith), ne_eqb x y (λ e. omega (arith, e)), has-with_line x ls l) (or_swap (eqb y l) (eqb x l) (has_line ls l))
      ]
    ]

pub Rising-with_line : (low x : ℕ) (ls : List ℕ) → low ≤ x → Rising low ls → Rising low (with_line x ls)
Rising-with_line low x [] le h = (le, tt)
Rising-with_line low x (y ∷ ls) le h =
    elim (cases_order x y) [
      | inl same ↦ rw (le-ltb x y (omega arith), eq-eqb x y same) h
      | inr differ ↦ elim differ [
        | inl lt ↦ rw (lt-ltb x y lt) (le, (omega arith, h.1))
        | inr gt ↦ rw (le-ltb x y (omega arith), ne_eqb x y (λ e. omega (arith, e))) (h.0, Rising-with_line (y + 1) x ls (omega arith) h.1)
      ]
    ]

pub has-union_of : (xs ys : List ℕ) (l : ℕ) → has_line (union_of xs ys) l ≡ (has_line xs l || has_line ys l)
has-union_of [] ys l = refl
has-union_of (x ∷ xs) ys l =
    has-union_of xs (with_line x ys) l
    ∙ (ap (λ (b : Bool). has_line xs l || b) (has-with_line x ys l)
    ∙ (or_swap (has_line xs l) (eqb x l) (has_line ys l) ∙ or_assoc (eqb x l) (has_line xs l) (has_line ys l)))

pub Rising-union_of : (xs ys : List ℕ) → Rising 0 ys → Rising 0 (union_of xs ys)
Rising-union_of [] ys h = h
Rising-union_of (x ∷ xs) ys h = Rising-union_of xs (with_line x ys) (Rising-with_line 0 x ys (omega arith) h)

first_same : (x y : ℕ) (xs ys : List ℕ) → x ≡ y → xs ≡ ys → x ∷ xs ≡ y ∷ ys
first_same x y xs ys e f = cc

rests : (x y : ℕ) (xs ys : List ℕ) → x ≡ y → Rising (x + 1) xs → Rising (y + 1) ys → ((l : ℕ) → has_line (x ∷ xs) l ≡ has_line (y ∷ ys) l) → (l : ℕ) → has_line xs l ≡ has_line ys l
rests x y xs ys e h k same l =
    elim (cases_lt x l) [
      | inl lt ↦ (let w : has_line (x ∷ xs) l ≡ has_line (y ∷ ys) l = same l in rw (ne_eqb x l (λ e. omega (arith, e)), ne_eqb y l (λ f. omega (arith, f))) at w)
      | inr ge ↦ has-below (x + 1) xs l h (omega arith) ∙ sym (has-below (y + 1) ys l k (omega arith))
    ]

-- rising lists that hold the same numbers are one
pub same_numbers : (low : ℕ) (xs ys : List ℕ) → Rising low xs → Rising low ys → ((l : ℕ) → has_line xs l ≡ has_line ys l) → xs ≡ ys
same_numbers low [] [] h k same = refl
same_numbers low [] (y ∷ ys) h k same = absurd (false≢true (same y ∙ rw (eq-eqb y y refl) refl))
same_numbers low (x ∷ xs) [] h k same = absurd (false≢true (sym (same x) ∙ rw (eq-eqb x x refl) refl))
same_numbers low (x ∷ xs) (y ∷ ys) h k same =
    elim (cases_order x y) [
      | inl e ↦ first_same x y xs ys e (same_numbers (x + 1) xs ys h.1 (subst (λ (n : ℕ). Rising (n + 1) ys) (sym e) k.1) (rests x y xs ys e h.1 k.1 same))
      | inr differ ↦ elim differ [
        | inl lt ↦ absurd (false≢true (sym (same x ∙ has-below y (y ∷ ys) x (omega arith, k.1) lt) ∙ rw (eq-eqb x x refl) refl))
        | inr gt ↦ absurd (false≢true (sym (has-below x (x ∷ xs) y (omega arith, h.1) gt) ∙ (same y ∙ rw (eq-eqb y y refl) refl)))
      ]
    ]
