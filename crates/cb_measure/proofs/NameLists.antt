-- Different names, one more at a time.
use Rattle.std.proofs.Common.{◌≡◌, ℕ, ◌+◌, ◌<◌, ◌≤◌, Bool, true, false, cond, List, [], ◌∷◌, ◌++◌, length, map, filter, take, get_or, refl, sym, ap, ◌∙◌, arith}
use Rattle.std.specs.BTreeSet.{insert_key}
use Rattle.std.specs.List.{fold}
use Rattle.std.specs.Ordering.{nat_cmp, match_ordering}
use Rattle.std.specs.declared.cmp.Ordering.{Ordering}
use Rattle.std.specs.declared.cmp.Ordering.TheVariants.{Less, Equal, Greater}
use Rattle.std.specs.Cmp.Lexicographic.{slice_cmp}
use Rattle.std.specs.Str.{bytes_eq}
use Rattle.std.proofs.lemmas.List.{map-append, append-nil, take_more, length-map}
use Rattle.std.proofs.lemmas.List.Elements.{filter-append}
use Rattle.std.proofs.lemmas.List.Sums.{fold-append}
use Rattle.cb_measure.specs.Names.{names_of}
use Rattle.cb_measure.specs.Metrics.{of_problem, applications_of, platforms_of}
use Rattle.cb_measure.specs.declared.row.Row.{Row}

pub names_none : (keys : List (List ℕ)) → keys ≡ [] → keys ≡ names_of []
unfolding names_of
names_none keys e = e

pub names_more : (xs : List (List ℕ)) (x : List ℕ) → names_of (xs ++ x ∷ []) ≡ insert_key (slice_cmp nat_cmp) (names_of xs) x
unfolding names_of
names_more xs x = fold-append (insert_key (slice_cmp nat_cmp)) [] xs (x ∷ [])

-- the name of one more row
pub named_more : (f : Row → List ℕ) (rows : List Row) (i : ℕ) (row : Row) (old new : List (List ℕ)) → i < length rows → row ≡ get_or rows i row
    → old ≡ names_of (map f (take i rows)) → new ≡ insert_key (slice_cmp nat_cmp) old (f row) → new ≡ names_of (map f (take (i + 1) rows))
named_more f rows i row old new within e h g =
    g ∙ rw h (sym (ap names_of (ap (map f) (take_more rows i row within) ∙ map-append f (take i rows) (get_or rows i row ∷ [])) ∙ rw (← e) (names_more (map f (take i rows)) (f row))))

-- the names of a problem's rows
abbrev pub names_in : (Row → List ℕ) → List Row → List ℕ → List (List ℕ)
names_in f rows p = names_of (map f (filter (of_problem p) rows))

-- the names of a problem after one more row, which is of that problem or of another one
pub names_after : (f : Row → List ℕ) (rows : List Row) (row : Row) (p : List ℕ) (here old new : List (List ℕ))
    → old ≡ names_in f rows p → (bytes_eq row.problem p ≡ true → here ≡ names_in f rows p)
    → new ≡ cond (bytes_eq row.problem p) (insert_key (slice_cmp nat_cmp) here (f row)) old → new ≡ names_in f (rows ++ row ∷ []) p
names_after f rows row p here old new so_far same adds =
    adds ∙ (by (bytes_eq row.problem p) same ∙ sym (ap (λ rs. names_of (map f rs)) (filter-append (of_problem p) rows (row ∷ []))))
  where
    by : (b : Bool) → (b ≡ true → here ≡ names_in f rows p) → cond b (insert_key (slice_cmp nat_cmp) here (f row)) old ≡ names_of (map f (filter (of_problem p) rows ++ cond b (row ∷ []) []))
    by true s = rw (s refl, map-append f (filter (of_problem p) rows) (row ∷ [])) (sym (names_more (map f (filter (of_problem p) rows)) (f row)))
    by false s = rw (so_far, append-nil (filter (of_problem p) rows)) refl

-- there are no more names than rows
at_most : (ks : List (List ℕ)) (k : List ℕ) → length (insert_key (slice_cmp nat_cmp) ks k) ≤ length ks + 1
at_most [] k = omega arith
at_most (x ∷ xs) k = by (slice_cmp nat_cmp k x) (at_most xs k)
  where
    by : (o : Ordering) → length (insert_key (slice_cmp nat_cmp) xs k) ≤ length xs + 1 → length (match_ordering o (k ∷ x ∷ xs) (x ∷ xs) (x ∷ insert_key (slice_cmp nat_cmp) xs k)) ≤ length (x ∷ xs) + 1
    by Less h = omega arith
    by Equal h = omega arith
    by Greater h = omega arith

fold_at_most : (names acc : List (List ℕ)) → length (fold (insert_key (slice_cmp nat_cmp)) acc names) ≤ length acc + length names
fold_at_most [] acc = omega arith
fold_at_most (n ∷ ns) acc = omega (arith, fold_at_most ns (insert_key (slice_cmp nat_cmp) acc n), at_most acc n)

pub names-le : (names : List (List ℕ)) → length (names_of names) ≤ length names
unfolding names_of
names-le names = omega (arith, fold_at_most names [])

filter-le : (q : Row → Bool) (rows : List Row) → length (filter q rows) ≤ length rows
filter-le q [] = omega arith
filter-le q (r ∷ rs) = by (q r) (filter-le q rs)
  where
    by : (b : Bool) → length (filter q rs) ≤ length rs → length (cond b (r ∷ filter q rs) (filter q rs)) ≤ length (r ∷ rs)
    by true h = omega arith
    by false h = omega arith

pub platforms-le : (rows : List Row) (p : List ℕ) → length (platforms_of rows p) ≤ length rows
unfolding platforms_of
platforms-le rows p =
    omega (arith, names-le (map (λ (row : Row). row.platform) (filter (of_problem p) rows)), length-map (filter (of_problem p) rows) (λ (row : Row). row.platform), filter-le (of_problem p) rows)
