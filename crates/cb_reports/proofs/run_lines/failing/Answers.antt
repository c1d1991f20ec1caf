use Rattle.std.proofs.Common.{◌≡◌, ◌∙◌, ℕ, ◌*◌, ◌/◌, ◌<◌, ◌||◌, Bool, true, false, None, Some, is_none, eqb, cond, List, [], ◌∷◌, filter, refl, sym, arith}
use Rattle.std.specs.List.{list_any}
use Rattle.std.proofs.lemmas.Bool.{false≢true}
use Rattle.cb_measure.specs.Metrics.{figure_on, best_on, efficiency_of, fails_on, portability_over, platforms_of}
use Rattle.cb_measure.specs.declared.row.Row.{Row}
use Rattle.cb_reports.specs.Measurements.{is_failing}
use Rattle.cb_reports.proofs.run_lines.failing.Goals as goal

-- what fails nowhere fails on none of the platforms
none-fail : (rows : List Row) (p a : List ℕ) (hs : List (List ℕ)) → fails_on rows p a hs ≡ false → filter (is_failing rows p a) hs ≡ []
unfolding fails_on efficiency_of
none-fail rows p a [] e = refl
none-fail rows p a (h ∷ hs) e = by (eqb (figure_on rows p a h) 0) e (none-fail rows p a hs)
  where
    by : (b : Bool) → (b || list_any (λ platform. eqb (figure_on rows p a platform) 0) hs) ≡ false → (fails_on rows p a hs ≡ false → filter (is_failing rows p a) hs ≡ [])
        → cond (is_none (cond b None (Some (best_on rows p h * 1000000000000 / figure_on rows p a h)))) (h ∷ filter (is_failing rows p a) hs) (filter (is_failing rows p a) hs) ≡ []
    by true e more = absurd (false≢true (sym e))
    by false e more = more e

-- a portability that is positive is one without a failure
positive-runs : (rows : List Row) (p a : List ℕ) (hs : List (List ℕ)) → 0 < portability_over rows p a hs → fails_on rows p a hs ≡ false
unfolding portability_over
positive-runs rows p a hs h = by (fails_on rows p a hs) refl
  where
    by : (b : Bool) → fails_on rows p a hs ≡ b → fails_on rows p a hs ≡ false
    by false e = e
    by true e = absurd (let zero : portability_over rows p a hs ≡ 0 = rw e refl in omega (arith, zero, h))

pub returns-then-portability-gt0 : goal.returns-then-portability-gt0
returns-then-portability-gt0 c =
    let rows = c.args.rows.now in
    let p = c.args.problem.now in
    let a = c.args.application.now in
    c.new.ensures ∙ sym (none-fail rows p a (platforms_of rows p) (positive-runs rows p a (platforms_of rows p) (omega (arith, c.requires))))
