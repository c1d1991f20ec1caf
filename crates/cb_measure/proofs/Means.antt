-- The mean over platforms, one more at a time.
use Rattle.std.proofs.Common.{◌≡◌, ℕ, ◌+◌, ◌*◌, ◌/◌, ◌^◌, ◌≤◌, ◌≢◌, Bool, true, false, cond, ◌||◌, List, [], ◌∷◌, ◌++◌, length, refl, sym, ◌∙◌, arith, eqb, length-append, ⊎_elim}
use Rattle.std.specs.List.{list_any, sum_by}
use Rattle.std.proofs.lemmas.Bool.{ne_eqb, cases_eq, false≢true}
use Rattle.std.proofs.lemmas.List.Folds.{list_any-append}
use Rattle.std.proofs.lemmas.List.Sums.{sum_by-append}
use Rattle.cb_paths.specs.Grid.{units}
use Rattle.cb_measure.specs.Metrics.{fails_on, figure_on, best_on, slowness, portability_over}
use Rattle.cb_measure.specs.declared.row.Row.{Row}

-- how many platforms there are, on all of which an application runs, and the sum of its slownesses there
pub record IsSummed (rows : List Row) (problem application : List ℕ) (platforms : List (List ℕ)) (count total : ℕ) : Type 0 where
  pub runs : fails_on rows problem application platforms ≡ false
  pub counted : count ≡ length platforms
  pub summed : total ≡ sum_by (slowness rows problem application) platforms

-- what a mean knows of the platforms so far
pub record IsMeanOf (rows : List Row) (problem application : List ℕ) (platforms : List (List ℕ)) (failed : Bool) (count total : ℕ) : Type 0 where
  pub fails : failed ≡ true → fails_on rows problem application platforms ≡ true
  pub sum : failed ≡ false → IsSummed rows problem application platforms count total

pub mean_none : (rows : List Row) (problem application : List ℕ) (failed : Bool) (count total : ℕ) → failed ≡ false → count ≡ 0 → total ≡ 0
    → IsMeanOf rows problem application [] failed count total
unfolding fails_on
mean_none rows problem application failed count total f n s =
    record { fails = λ e. absurd (false≢true (sym f ∙ e)); sum = λ _. record { runs = refl; counted = n; summed = s } }

-- it fails on platforms and one more
fails_last : (rows : List Row) (problem application : List ℕ) (platforms : List (List ℕ)) (platform : List ℕ) → figure_on rows problem application platform ≡ 0
    → fails_on rows problem application (platforms ++ platform ∷ []) ≡ true
unfolding fails_on
fails_last rows problem application platforms platform e =
    list_any-append (λ platform. eqb (figure_on rows problem application platform) 0) platforms (platform ∷ [])
    ∙ rw e (or_true (list_any (λ platform. eqb (figure_on rows problem application platform) 0) platforms))
  where
    or_true : (b : Bool) → (b || true) ≡ true
    or_true true = refl
    or_true false = refl

fails_kept : (rows : List Row) (problem application : List ℕ) (platforms : List (List ℕ)) (platform : List ℕ) → fails_on rows problem application platforms ≡ true
    → fails_on rows problem application (platforms ++ platform ∷ []) ≡ true
unfolding fails_on
fails_kept rows problem application platforms platform e =
    list_any-append (λ platform. eqb (figure_on rows problem application platform) 0) platforms (platform ∷ []) ∙ rw e refl

summed_more : (rows : List Row) (problem application : List ℕ) (platforms : List (List ℕ)) (platform : List ℕ) (count total count' total' figure best : ℕ)
    → IsSummed rows problem application platforms count total → figure ≢ 0 → figure ≡ figure_on rows problem application platform → best ≡ best_on rows problem platform
    → count' ≡ count + 1 → total' ≡ total + figure * units / best → IsSummed rows problem application (platforms ++ platform ∷ []) count' total'
unfolding fails_on slowness
summed_more rows problem application platforms platform count total count' total' figure best h runs f b ec et = record {
  runs = list_any-append (λ platform. eqb (figure_on rows problem application platform) 0) platforms (platform ∷ []) ∙ rw (h.runs, ne_eqb (figure_on rows problem application platform) 0 (λ z. runs (f ∙ z))) refl;
  counted = rw (length-append platforms (platform ∷ [])) (omega (arith, h.counted));
  summed = rw (sum_by-append (λ platform. figure_on rows problem application platform * units / best_on rows problem platform) platforms (platform ∷ []), et, f, b) (omega (arith, h.summed));
}

-- one platform more
pub mean_more : (rows : List Row) (problem application : List ℕ) (platforms : List (List ℕ)) (platform : List ℕ) (failed failed' : Bool) (count total count' total' figure best : ℕ)
    → IsMeanOf rows problem application platforms failed count total → figure ≡ figure_on rows problem application platform → best ≡ best_on rows problem platform
    → (failed' ≡ true → figure ≢ 0 → failed ≡ true) → (failed' ≡ false → failed ≡ false) → (failed' ≡ false → figure ≢ 0) → (failed' ≡ false → count' ≡ count + 1)
    → (failed' ≡ false → total' ≡ total + figure * units / best) → IsMeanOf rows problem application (platforms ++ platform ∷ []) failed' count' total'
mean_more rows problem application platforms platform failed failed' count total count' total' figure best h f b because ran runs counted summed = record {
  fails = λ e. ⊎_elim (λ z. fails_last rows problem application platforms platform (sym f ∙ z)) (λ n. fails_kept rows problem application platforms platform (h.fails (because e n))) (cases_eq figure 0);
  sum = λ e. summed_more rows problem application platforms platform count total count' total' figure best (h.sum (ran e)) (runs e) f b (counted e) (summed e);
}

mean_of : (rows : List Row) (problem application : List ℕ) (platforms : List (List ℕ)) (count total : ℕ) → IsSummed rows problem application platforms count total
    → cond (eqb count 0) 0 (count * 10 ^ 24 / total) ≡ portability_over rows problem application platforms
unfolding portability_over
mean_of rows problem application platforms count total h = rw (h.runs, h.counted, h.summed) refl

mean_failed : (rows : List Row) (problem application : List ℕ) (platforms : List (List ℕ)) → fails_on rows problem application platforms ≡ true → portability_over rows problem application platforms ≡ 0
unfolding portability_over
mean_failed rows problem application platforms h = rw h refl

-- the mean is the portability over these platforms
pub mean_is : (rows : List Row) (problem application : List ℕ) (platforms : List (List ℕ)) (failed : Bool) (count total : ℕ) → IsMeanOf rows problem application platforms failed count total
    → cond failed 0 (cond (eqb count 0) 0 (count * 10 ^ 24 / total)) ≡ portability_over rows problem application platforms
mean_is rows problem application platforms true count total h = sym (mean_failed rows problem application platforms (h.fails refl))
mean_is rows problem application platforms false count total h = mean_of rows problem application platforms count total (h.sum refl)

pub mean_nowhere : (rows : List Row) (problem application : List ℕ) (platforms : List (List ℕ)) → platforms ≡ [] → 0 ≡ portability_over rows problem application platforms
unfolding portability_over fails_on
mean_nowhere rows problem application platforms e = rw e refl
