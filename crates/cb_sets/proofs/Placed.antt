-- Rows with lines more, by the ranks of their sets.
use Rattle.std.proofs.Common.{◌≡◌, ℕ, ◌+◌, ◌<◌, ◌≤◌, true, false, IsTrue, ◌↔◌, cond, eqb, ltb, List, [], ◌∷◌, length, get_or, set, map, refl, sym, ap, ◌∙◌, subst, suc, zero, inl, inr, arith}
use Rattle.std.specs.List.{insert}
use Rattle.std.proofs.lemmas.Bool.{cases_order, le-ltb, lt-ltb, eq-eqb, ne_eqb, false≢true}
use Rattle.std.proofs.lemmas.List.{get_or_default}
use Rattle.std.specs.List.Sorted.{IsNonDecreasingBy}
use Rattle.cb_sets.specs.declared.platform_set.PlatformSet.{PlatformSet}
use Rattle.cb_sets.specs.declared.row.Row.{Row}
use Rattle.cb_sets.specs.Sets.{members}
use Rattle.cb_sets.specs.Tallies.{with_count, AreInOrder}
use Rattle.cb_sets.specs.inner.Ranks.{rank_of}
use Rattle.cb_sets.specs.inner.Rows.{seen, Rise, IsWithCount}
use Rattle.cb_sets.proofs.Orders.{precedes_by_rank, same_by_rank}

abbrev pub with_row : PlatformSet → ℕ → List Row → List Row
with_row s n [] = record { set = s; lines = n } ∷ []
with_row s n (r ∷ rs) =
    cond (eqb (rank_of s) (rank_of r.set)) (record { set = r.set; lines = r.lines + n } ∷ rs)
    (cond (ltb (rank_of s) (rank_of r.set)) (record { set = s; lines = n } ∷ r ∷ rs) (r ∷ with_row s n rs))

seen-with_row : (s : PlatformSet) (n : ℕ) (rows : List Row) → map seen (with_row s n rows) ≡ with_count (members s) n (map seen rows)
seen-with_row s n [] = refl
seen-with_row s n (r ∷ rs) =
    elim (cases_order (rank_of s) (rank_of r.set)) [
      | inl same ↦ rw (same_by_rank s r.set, eq-eqb (rank_of s) (rank_of r.set) same) refl
      | inr differ ↦ elim differ [
        | inl lt ↦ rw (same_by_rank s r.set, precedes_by_rank s r.set, ne_eqb (rank_of s) (rank_of r.set) (λ e. omega (arith, e)), lt-ltb (rank_of s) (rank_of r.set) lt) refl
        | inr gt ↦ rw (same_by_rank s r.set, precedes_by_rank s r.set, ne_eqb (rank_of s) (rank_of r.set) (λ e. omega (arith, e)), le-ltb (rank_of s) (rank_of r.set) (omega arith))
            (ap (λ rs. seen r ∷ rs) (seen-with_row s n rs))
      ]
    ]

rising-with_row : (low : ℕ) (s : PlatformSet) (n : ℕ) (rows : List Row) → low ≤ rank_of s → Rise low rows → Rise low (with_row s n rows)
rising-with_row low s n [] le h = (le, tt)
rising-with_row low s n (r ∷ rs) le h =
    elim (cases_order (rank_of s) (rank_of r.set)) [
      | inl same ↦ rw (eq-eqb (rank_of s) (rank_of r.set) same) h
      | inr differ ↦ elim differ [
        | inl lt ↦ rw (ne_eqb (rank_of s) (rank_of r.set) (λ e. omega (arith, e)), lt-ltb (rank_of s) (rank_of r.set) lt) (le, (omega arith, h.1))
        | inr gt ↦ rw (ne_eqb (rank_of s) (rank_of r.set) (λ e. omega (arith, e)), le-ltb (rank_of s) (rank_of r.set) (omega arith)) (h.0, rising-with_row (rank_of r.set + 1) s n rs (omega arith) h.1)
      ]
    ]

-- a row of its own, at the place behind those with lesser ranks
row_inserted : (s : PlatformSet) (n : ℕ) (rows : List Row) (p : ℕ) → p ≤ length rows
    → ((k : ℕ) (d : Row) → k < p → rank_of (get_or rows k d).set < rank_of s)
    → ((d : Row) → p < length rows → rank_of s < rank_of (get_or rows p d).set)
    → insert rows p (record { set = s; lines = n }) ≡ with_row s n rows
row_inserted s n [] zero le before behind = refl
row_inserted s n [] (suc p) le before behind = absurd (omega arith)
row_inserted s n (r ∷ rs) zero le before behind =
    let lt : rank_of s < rank_of r.set = behind r (omega arith) in
    rw (ne_eqb (rank_of s) (rank_of r.set) (λ e. omega (arith, e)), lt-ltb (rank_of s) (rank_of r.set) lt) refl
row_inserted s n (r ∷ rs) (suc p) le before behind =
    let gt : rank_of r.set < rank_of s = before 0 r (omega arith) in
    rw (ne_eqb (rank_of s) (rank_of r.set) (λ e. omega (arith, e)), le-ltb (rank_of s) (rank_of r.set) (omega arith))
    (ap (λ xs. r ∷ xs) (row_inserted s n rs p (omega arith) (λ k d l. before (suc k) d (omega arith)) (λ d l. behind d (omega arith))))

-- more lines of the row at that place
row_longer : (s : PlatformSet) (n : ℕ) (rows : List Row) (p : ℕ) (d : Row) → p < length rows
    → ((k : ℕ) (d : Row) → k < p → rank_of (get_or rows k d).set < rank_of s)
    → rank_of (get_or rows p d).set ≡ rank_of s
    → set rows p (record { set = (get_or rows p d).set; lines = (get_or rows p d).lines + n }) ≡ with_row s n rows
row_longer s n [] p d l before here = absurd (omega arith)
row_longer s n (r ∷ rs) zero d l before here = rw (eq-eqb (rank_of s) (rank_of r.set) (sym here)) refl
row_longer s n (r ∷ rs) (suc p) d l before here =
    let gt : rank_of r.set < rank_of s = before 0 r (omega arith) in
    rw (ne_eqb (rank_of s) (rank_of r.set) (λ e. omega (arith, e)), le-ltb (rank_of s) (rank_of r.set) (omega arith))
    (ap (λ xs. r ∷ xs) (row_longer s n rs p d (omega arith) (λ k d l. before (suc k) d (omega arith)) here))

added : (s : PlatformSet) (n : ℕ) (rows new : List Row) → Rise 0 rows → new ≡ with_row s n rows → IsWithCount s n rows new
added s n rows new h e = record {
  rising = subst (Rise 0) (sym e) (rising-with_row 0 s n rows (omega arith) h);
  rows = ap (λ xs. map seen xs) e ∙ seen-with_row s n rows;
}

pub added_row : (s : PlatformSet) (n : ℕ) (rows new : List Row) (p : ℕ) → Rise 0 rows → p ≤ length rows
    → ((k : ℕ) (d : Row) → k < p → rank_of (get_or rows k d).set < rank_of s)
    → ((d : Row) → p < length rows → rank_of s < rank_of (get_or rows p d).set)
    → new ≡ insert rows p (record { set = s; lines = n }) → IsWithCount s n rows new
added_row s n rows new p h le before behind e = added s n rows new h (e ∙ row_inserted s n rows p le before behind)

pub added_lines : (s : PlatformSet) (n : ℕ) (rows new : List Row) (p : ℕ) (d : Row) → Rise 0 rows → p < length rows
    → ((k : ℕ) (d : Row) → k < p → rank_of (get_or rows k d).set < rank_of s)
    → rank_of (get_or rows p d).set ≡ rank_of s
    → new ≡ set rows p (record { set = (get_or rows p d).set; lines = (get_or rows p d).lines + n }) → IsWithCount s n rows new
added_lines s n rows new p d h l before here e = added s n rows new h (e ∙ row_longer s n rows p d l before here)

pub in_order : (low : ℕ) (rows : List Row) → Rise low rows → AreInOrder (map seen rows)
in_order low [] h = tt
in_order low (r ∷ []) h = tt
in_order low (r ∷ s ∷ rows) h =
    let next : rank_of r.set + 1 ≤ rank_of s.set = h.1.0 in
    (precedes_by_rank r.set s.set ∙ lt-ltb (rank_of r.set) (rank_of s.set) (omega arith), in_order (rank_of r.set + 1) (s ∷ rows) h.1)

above : (low : ℕ) (rows : List Row) → Rise low rows → (j : ℕ) (d : Row) → j < length rows → low ≤ rank_of (get_or rows j d).set
above low [] h j d l = absurd (omega arith)
above low (r ∷ rs) h zero d l = h.0
above low (r ∷ rs) h (suc j) d l = (let begins : low ≤ rank_of r.set = h.0 in omega (arith, above (rank_of r.set + 1) rs h.1 j d (omega arith)))

pub ranks_rise : (low : ℕ) (rows : List Row) → Rise low rows → IsNonDecreasingBy (λ (r : Row). rank_of r.set) rows
ranks_rise low [] h i j d ij l = absurd (omega arith)
ranks_rise low (r ∷ rs) h zero zero d ij l = omega arith
ranks_rise low (r ∷ rs) h zero (suc j) d ij l = omega (arith, above (rank_of r.set + 1) rs h.1 j d (omega arith))
ranks_rise low (r ∷ rs) h (suc i) zero d ij l = absurd (omega arith)
ranks_rise low (r ∷ rs) h (suc i) (suc j) d ij l = ranks_rise (rank_of r.set + 1) rs h.1 i j d (omega arith) (omega arith)

-- what was read as a slice
pub before_at : (xs rows : List Row) (r p : ℕ) (s : PlatformSet) → xs ≡ rows → r ≡ rank_of s → ((k : ℕ) (d : Row) → k < p → rank_of (get_or xs k d).set < r)
    → (k : ℕ) (d : Row) → k < p → rank_of (get_or rows k d).set < rank_of s
before_at xs rows r p s e f h k d l =
    subst (λ (ys : List Row). rank_of (get_or ys k d).set < rank_of s) e (subst (λ (n : ℕ). rank_of (get_or xs k d).set < n) f (h k d l))

pub behind_at : (xs ys rows : List Row) (r p : ℕ) (s : PlatformSet) → xs ≡ rows → ys ≡ rows → r ≡ rank_of s
    → ((k : ℕ) (d : Row) → p ≤ k → k < length xs → r ≤ rank_of (get_or xs k d).set)
    → (IsTrue false ↔ ((p < length ys) × ((d : Row) → rank_of (get_or ys p d).set ≡ r)))
    → (d : Row) → p < length rows → rank_of s < rank_of (get_or rows p d).set
behind_at xs ys rows r p s e f g behind apart d l =
    let lx : p < length xs = subst (λ (zs : List Row). p < length zs) (sym e) l in
    let ly : p < length ys = subst (λ (zs : List Row). p < length zs) (sym f) l in
    let le : rank_of s ≤ rank_of (get_or rows p d).set =
    subst (λ (zs : List Row). rank_of s ≤ rank_of (get_or zs p d).set) e (subst (λ (n : ℕ). n ≤ rank_of (get_or xs p d).set) g (behind p d (omega arith) lx)) in
    elim (cases_order (rank_of s) (rank_of (get_or rows p d).set)) [
      | inl same ↦ absurd (false≢true (apart.1 (
        ly,
        λ d'.
            ap (λ (x : Row). rank_of x.set) (get_or_default ys p d' d ly)
            ∙ (ap (λ (zs : List Row). rank_of (get_or zs p d).set) f ∙ (sym same ∙ sym g)),
      )))
      | inr differ ↦ elim differ [
        | inl lt ↦ lt
        | inr gt ↦ absurd (omega arith)
      ]
    ]

pub here_at : (ys rows : List Row) (r p : ℕ) (s : PlatformSet) → ys ≡ rows → r ≡ rank_of s
    → (IsTrue true ↔ ((p < length ys) × ((d : Row) → rank_of (get_or ys p d).set ≡ r))) → (d : Row) → (p < length rows) × (rank_of (get_or rows p d).set ≡ rank_of s)
here_at ys rows r p s f g is d =
    let h = is.0 refl in
    (subst (λ (zs : List Row). p < length zs) f h.0, ap (λ (zs : List Row). rank_of (get_or zs p d).set) (sym f) ∙ (h.1 d ∙ g))
