-- The least figure of an application is no better than the best of all.
use Rattle.std.proofs.Common.{◌≡◌, ℕ, ◌^◌, ◌<◌, ◌≤◌, Bool, true, false, cond, ◌&&◌, List, [], ◌∷◌, filter, refl, arith}
use Rattle.std.specs.List.{fold, list_all}
use Rattle.std.specs.Str.{bytes_eq}
use Rattle.std.proofs.lemmas.Bool.Decides.{nat_tests}
use Rattle.cb_measure.specs.inner.Finding.{is_small}
use Rattle.cb_measure.specs.Metrics.{better, least, of_run, of_place, figure_on, best_on}
use Rattle.cb_measure.specs.declared.row.Row.{Row}

-- a best figure beside another one
pub record IsBeside (best figure : ℕ) : Type 0 where
  pub some : 0 < figure → 0 < best
  pub least : 0 < figure → best ≤ figure

both : (b f z : ℕ) → IsBeside b f → IsBeside (better b z) (better f z)
both b f z h = record { some = λ p. grind (arith, nat_tests, h.some, h.least); least = λ p. grind (arith, nat_tests, h.some, h.least) }

one : (b f z : ℕ) → IsBeside b f → IsBeside (better b z) f
one b f z h = record { some = λ p. grind (arith, nat_tests, h.some, h.least); least = λ p. grind (arith, nat_tests, h.some, h.least) }

small : (x z : ℕ) → x < 10 ^ 15 → z < 10 ^ 15 → better x z < 10 ^ 15
small x z h g = grind (arith, nat_tests)

step_is : ℕ → Row → ℕ
step_is x row = better x row.fom

-- over all rows: those of an application are among those of all
beside : (p h a : List ℕ) (rows : List Row) (b f : ℕ) → IsBeside b f → IsBeside (fold step_is b (filter (of_place p h) rows)) (fold step_is f (filter (of_run p a h) rows))
unfolding step_is
beside p h a [] b f start = start
beside p h a (row ∷ rows) b f start = by (of_place p h row) (eqb' row) (beside p h a rows)
  where
    eqb' : Row → Bool
    eqb' row = bytes_eq row.application a

    by : (place app : Bool) → ((b f : ℕ) → IsBeside b f → IsBeside (fold step_is b (filter (of_place p h) rows)) (fold step_is f (filter (of_run p a h) rows)))
        → IsBeside (fold step_is b (cond place (row ∷ filter (of_place p h) rows) (filter (of_place p h) rows))) (fold step_is f (cond (place && app) (row ∷ filter (of_run p a h) rows) (filter (of_run p a h) rows)))
    by true true more = more (better b row.fom) (better f row.fom) (both b f row.fom start)
    by true false more = more (better b row.fom) f (one b f row.fom start)
    by false app more = more b f start

pub beside_best : (rows : List Row) (p a h : List ℕ) → IsBeside (best_on rows p h) (figure_on rows p a h)
unfolding best_on figure_on least step_is
beside_best rows p a h = beside p h a rows 0 0 (record { some = λ z. absurd (omega arith); least = λ z. absurd (omega arith) })

small_after : (q : Row → Bool) (rows : List Row) (x : ℕ) → x < 10 ^ 15 → list_all is_small rows ≡ true → fold step_is x (filter q rows) < 10 ^ 15
unfolding step_is
small_after q [] x h all = h
small_after q (row ∷ rows) x h all = by (q row) (is_small row) (list_all is_small rows) refl refl all (small_after q rows)
  where
    by : (t s r : Bool) → is_small row ≡ s → list_all is_small rows ≡ r → (s && r) ≡ true
        → ((x : ℕ) → x < 10 ^ 15 → list_all is_small rows ≡ true → fold step_is x (filter q rows) < 10 ^ 15)
        → fold step_is x (cond t (row ∷ filter q rows) (filter q rows)) < 10 ^ 15
    by true true true e g all more = more (better x row.fom) (small x row.fom h (grind (arith, nat_tests, e))) g
    by false true true e g all more = more x h g
    by t true false e g all more = cc all
    by t false r e g all more = cc all

pub small_figure : (rows : List Row) (p a h : List ℕ) → list_all is_small rows ≡ true → figure_on rows p a h < 10 ^ 15
unfolding figure_on least step_is
small_figure rows p a h all = small_after (of_run p a h) rows 0 (omega arith) all
