-- Names and their numbers, and what is found by them.
use Rattle.std.proofs.Common.{◌≡◌, ℕ, ◌+◌, ◌<◌, ◌≤◌, ◌&&◌, Bool, true, false, cond, Option, Some, None, unwrap_or, List, [], ◌∷◌, ◌++◌, length, filter, take, get_or, refl, sym, ap, ◌∙◌, arith, zero, suc, inl, inr, eqb, subst}
use Rattle.std.specs.Prelude.{nat_eq}
use Rattle.std.specs.List.{fold}
use Rattle.std.specs.Str.{bytes_eq}
use Rattle.std.specs.Global.{Vec}
use Rattle.std.specs.HashMap.{HashMap, get, get_by, hash_map_len, Updates}
use Rattle.std.proofs.lemmas.Bool.{cases_Bool, eq-eqb, ne_eqb, false≢true}
use Rattle.std.specs.BTreeSet.{insert_key}
use Rattle.std.specs.Ordering.{nat_cmp}
use Rattle.std.specs.Cmp.Lexicographic.{slice_cmp}
use Rattle.std.proofs.lemmas.List.{append-nil, take_more}
use Rattle.std.proofs.lemmas.List.Elements.{filter-append}
use Rattle.std.proofs.lemmas.List.Sums.{fold-append}
use Rattle.std.proofs.lemmas.Slice.Eq.{bytes_eq-Decides}
use Rattle.cb_measure.specs.Metrics.{better, least, of_place, of_run, figure_on, best_on}
use Rattle.cb_measure.specs.inner.Numbers.{number_in, AreApart, IsKnown, AreKnown, IsNumbering}
use Rattle.cb_measure.specs.declared.row.Row.{Row}
use Rattle.cb_measure.proofs.NameLists.{names_in, names_after}

-- a list equals itself, and equal lists are one
pub bytes_same : (a : List ℕ) → bytes_eq a a ≡ true
bytes_same a = (bytes_eq-Decides a a).1 refl

pub bytes_one : (a b : List ℕ) → bytes_eq a b ≡ true → a ≡ b
bytes_one a b e = (bytes_eq-Decides a b).0 e

-- names are equal where their numbers are
pub same_number : (number : List ℕ → ℕ) → ((a b : List ℕ) → number a < 4294967295 → number a ≡ number b → a ≡ b) → (a b : List ℕ) → number a < 4294967295
    → nat_eq (number a) (number b) ≡ bytes_eq a b
same_number number apart a b known = elim (cases_Bool (bytes_eq a b)) [
  | inl t ↦ eq-eqb (number a) (number b) (ap number (bytes_one a b t)) ∙ sym t
  | inr f ↦ ne_eqb (number a) (number b) (λ e. false≢true (sym f ∙ (ap (bytes_eq a) (sym (apart a b known e)) ∙ bytes_same a))) ∙ sym f
]

-- a row of those whose names have numbers
pub known_at : (number : List ℕ → ℕ) (rows : List Row) (i : ℕ) (row : Row) → AreKnown number rows → i < length rows → row ≡ get_or rows i row → IsKnown number row
known_at number [] i row h within is = absurd (omega arith)
known_at number (r ∷ rs) zero row h within is = let P : Row → Type 0 = IsKnown number in subst P (sym is) h.0
known_at number (r ∷ rs) (suc i) row h within is = known_at number rs i row h.1 (omega arith) is

-- the figures of one more row
least_more : (q : Row → Bool) (rows : List Row) (row : Row) → least (filter q (rows ++ row ∷ [])) ≡ cond (q row) (better (least (filter q rows)) row.fom) (least (filter q rows))
unfolding least
least_more q rows row = ap (λ rs. least rs) (filter-append q rows (row ∷ [])) ∙ by (q row)
  where
    by : (b : Bool) → least (filter q rows ++ cond b (row ∷ []) []) ≡ cond b (better (least (filter q rows)) row.fom) (least (filter q rows))
    by true = fold-append (λ x (row : Row). better x row.fom) 0 (filter q rows) (row ∷ [])
    by false = ap (λ rs. least rs) (append-nil (filter q rows))

-- a figure that is lowered by a row of the same key, and else stays
pub best_more : (rows : List Row) (row : Row) (p h : List ℕ) (here old new : ℕ) (hit : Bool) → hit ≡ (bytes_eq row.problem p && bytes_eq row.platform h)
    → here ≡ best_on rows row.problem row.platform → old ≡ best_on rows p h → new ≡ cond hit (better here row.fom) old → new ≡ best_on (rows ++ row ∷ []) p h
unfolding best_on
best_more rows row p h here old new hit test same so_far adds =
    adds ∙ (rw test (by (bytes_eq row.problem p) (bytes_eq row.platform h) refl refl) ∙ sym (least_more (of_place p h) rows row))
  where
    by : (b c : Bool) → bytes_eq row.problem p ≡ b → bytes_eq row.platform h ≡ c
        → cond (b && c) (better here row.fom) old ≡ cond (b && c) (better (least (filter (of_place p h) rows)) row.fom) (least (filter (of_place p h) rows))
    by true true e f = ap (λ n. better n row.fom) (same ∙ ap (λ q. least (filter (of_place q row.platform) rows)) (bytes_one row.problem p e) ∙ ap (λ q. least (filter (of_place p q) rows)) (bytes_one row.platform h f))
    by true false e f = so_far
    by false c e f = so_far

pub run_more : (rows : List Row) (row : Row) (p a h : List ℕ) (here old new : ℕ) (hit : Bool) → hit ≡ (bytes_eq row.problem p && bytes_eq row.platform h && bytes_eq row.application a)
    → here ≡ figure_on rows row.problem row.application row.platform → old ≡ figure_on rows p a h → new ≡ cond hit (better here row.fom) old → new ≡ figure_on (rows ++ row ∷ []) p a h
unfolding figure_on
run_more rows row p a h here old new hit test same so_far adds =
    adds ∙ (rw test (by (bytes_eq row.problem p) (bytes_eq row.platform h) (bytes_eq row.application a) refl refl refl) ∙ sym (least_more (of_run p a h) rows row))
  where
    by : (b c d : Bool) → bytes_eq row.problem p ≡ b → bytes_eq row.platform h ≡ c → bytes_eq row.application a ≡ d
        → cond (b && c && d) (better here row.fom) old ≡ cond (b && c && d) (better (least (filter (of_run p a h) rows)) row.fom) (least (filter (of_run p a h) rows))
    by true true true e f g =
        ap (λ n. better n row.fom)
        (same ∙ ap (λ q. least (filter (of_run q row.application row.platform) rows)) (bytes_one row.problem p e)
        ∙ ap (λ q. least (filter (of_run p row.application q) rows)) (bytes_one row.platform h f) ∙ ap (λ q. least (filter (of_run p q h) rows)) (bytes_one row.application a g))
    by true true false e f g = so_far
    by true false d e f g = so_far
    by false c d e f g = so_far

next_rows : (all : List Row) (i : ℕ) (row : Row) → i < length all → row ≡ get_or all i row → take (i + 1) all ≡ take i all ++ row ∷ []
next_rows all i row within is = take_more all i row within ∙ ap (λ (x : Row). take i all ++ x ∷ []) (sym is)

-- a step over rows: the figures by numbers
pub best_step : (number : List ℕ → ℕ) (all : List Row) (i : ℕ) (row : Row) (old new : ℕ → ℕ → ℕ) (x y : ℕ) → IsNumbering number all → i < length all → row ≡ get_or all i row
    → x ≡ number row.problem → y ≡ number row.platform → ((p h : List ℕ) → old (number p) (number h) ≡ best_on (take i all) p h)
    → ((m n : ℕ) → new m n ≡ cond (nat_eq x m && nat_eq y n) (better (old x y) row.fom) (old m n))
    → (p h : List ℕ) → new (number p) (number h) ≡ best_on (take (i + 1) all) p h
best_step number all i row old new x y numbered within is ex ey so_far adds p h =
    let known = known_at number all i row numbered.known within is in
    rw (next_rows all i row within is)
    (best_more (take i all) row p h (old x y) (old (number p) (number h)) (new (number p) (number h)) (nat_eq x (number p) && nat_eq y (number h))
    (rw (ex, ey, same_number number numbered.apart row.problem p known.problem, same_number number numbered.apart row.platform h known.platform) refl)
    (rw (ex, ey) (so_far row.problem row.platform)) (so_far p h) (adds (number p) (number h)))

pub run_step : (number : List ℕ → ℕ) (all : List Row) (i : ℕ) (row : Row) (old new : ℕ → ℕ → ℕ → ℕ) (x z y : ℕ) → IsNumbering number all → i < length all → row ≡ get_or all i row
    → x ≡ number row.problem → z ≡ number row.application → y ≡ number row.platform
    → ((p a h : List ℕ) → old (number p) (number a) (number h) ≡ figure_on (take i all) p a h)
    → ((m l n : ℕ) → new m l n ≡ cond (nat_eq x m && nat_eq z l && nat_eq y n) (better (old x z y) row.fom) (old m l n))
    → (p a h : List ℕ) → new (number p) (number a) (number h) ≡ figure_on (take (i + 1) all) p a h
run_step number all i row old new x z y numbered within is ex ez ey so_far adds p a h =
    let known = known_at number all i row numbered.known within is in
    rw (next_rows all i row within is)
    (run_more (take i all) row p a h (old x z y) (old (number p) (number a) (number h)) (new (number p) (number a) (number h)) (nat_eq x (number p) && nat_eq z (number a) && nat_eq y (number h))
    (rw (ex, ez, ey, same_number number numbered.apart row.problem p known.problem, same_number number numbered.apart row.platform h known.platform, same_number number numbered.apart row.application a known.application)
    (turned (bytes_eq row.problem p) (bytes_eq row.application a) (bytes_eq row.platform h)))
    (rw (ex, ez, ey) (so_far row.problem row.application row.platform)) (so_far p a h) (adds (number p) (number a) (number h)))
  where
    turned : (b c d : Bool) → (b && c && d) ≡ (b && d && c)
    turned true true true = refl
    turned true true false = refl
    turned true false true = refl
    turned true false false = refl
    turned false true true = refl
    turned false true false = refl
    turned false false true = refl
    turned false false false = refl

-- a step over rows: the names by the numbers of problems
pub names_step : (f : Row → List ℕ) (number : List ℕ → ℕ) (all : List Row) (i : ℕ) (row : Row) (old new : ℕ → List (List ℕ)) (x : ℕ) → IsNumbering number all → i < length all
    → row ≡ get_or all i row → x ≡ number row.problem → ((p : List ℕ) → old (number p) ≡ names_in f (take i all) p)
    → ((q : ℕ) → new q ≡ cond (nat_eq x q) (insert_key (slice_cmp nat_cmp) (old x) (f row)) (old q))
    → (p : List ℕ) → new (number p) ≡ names_in f (take (i + 1) all) p
names_step f number all i row old new x numbered within is ex so_far adds p =
    let known = known_at number all i row numbered.known within is in
    rw (next_rows all i row within is)
    (names_after f (take i all) row p (old x) (old (number p)) (new (number p)) (so_far p)
    (λ e. rw ex (so_far row.problem ∙ ap (names_in f (take i all)) (bytes_one row.problem p e)))
    (adds (number p) ∙ rw (ex, same_number number numbered.apart row.problem p known.problem) refl))
