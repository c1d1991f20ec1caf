-- A platform among others.
use Rattle.std.proofs.Common.{◌≡◌, ℕ, ◌+◌, ◌*◌, ◌/◌, ◌<◌, arith, zero, suc, Bool, true, false, cond, None, Some, unwrap_or, eqb, List, [], ◌∷◌, ◌++◌, length, map, take, get_or, refl, sym, ap, ◌∙◌}
use Rattle.std.specs.Prelude.{not}
use Rattle.std.specs.List.{fold, insert, prefix_len}
use Rattle.std.proofs.lemmas.List.{take_more, length-map}
use Rattle.std.proofs.lemmas.List.Sums.{fold_more}
use Rattle.cb_paths.specs.Grid.{units}
use Rattle.cb_measure.specs.Metrics.{figure_on, best_on, efficiency_of, portability_over}
use Rattle.cb_measure.specs.Cascade.{is_slower, put_platform, step_at}
use Rattle.cb_measure.specs.inner.Timing.{timed, slower}
use Rattle.cb_measure.specs.declared.row.Row.{Row}
use Rattle.cb_measure.specs.declared.timed.Timed.{Timed}

-- a platform put among others with their figures
put_timed : (rows : List Row) (p a : List ℕ) (names : List (List ℕ)) (h : List ℕ)
    → insert (map (timed rows p a) names) (prefix_len (λ first. not (slower first (timed rows p a h))) (map (timed rows p a) names)) (timed rows p a h)
    ≡ map (timed rows p a) (put_platform rows p a names h)
unfolding put_platform is_slower
put_timed rows p a [] h = refl
put_timed rows p a (g ∷ gs) h = by (slower (timed rows p a g) (timed rows p a h)) (put_timed rows p a gs h)
  where
    by : (b : Bool) → insert (map (timed rows p a) gs) (prefix_len (λ first. not (slower first (timed rows p a h))) (map (timed rows p a) gs)) (timed rows p a h) ≡ map (timed rows p a) (put_platform rows p a gs h)
        → insert (timed rows p a g ∷ map (timed rows p a) gs) (cond (not b) (1 + prefix_len (λ first. not (slower first (timed rows p a h))) (map (timed rows p a) gs)) 0) (timed rows p a h)
        ≡ map (timed rows p a) (cond b (h ∷ g ∷ gs) (g ∷ put_platform rows p a gs h))
    by true e = refl
    by false e =
        let next : 1 + prefix_len (λ first. not (slower first (timed rows p a h))) (map (timed rows p a) gs) ≡ suc (prefix_len (λ first. not (slower first (timed rows p a h))) (map (timed rows p a) gs)) = omega arith in
        rw next (ap (λ (l : List Timed). timed rows p a g ∷ l) e)

-- one more platform put among those before it
pub put_more : (rows : List Row) (p a : List ℕ) (names : List (List ℕ)) (i : ℕ) (x : List ℕ) (item : Timed) (old new : List Timed) → i < length names → x ≡ get_or names i x
    → old ≡ map (timed rows p a) (fold (put_platform rows p a) [] (take i names)) → item ≡ timed rows p a x
    → new ≡ insert old (prefix_len (λ first. not (slower first item)) old) item
    → new ≡ map (timed rows p a) (fold (put_platform rows p a) [] (take (i + 1) names))
put_more rows p a names i x item old new within is so_far here adds =
    let more : fold (put_platform rows p a) [] (take (i + 1) names) ≡ put_platform rows p a (fold (put_platform rows p a) [] (take i names)) x =
    fold_more (put_platform rows p a) [] names i x within ∙ ap (put_platform rows p a (fold (put_platform rows p a) [] (take i names))) (sym is)
    in
    adds ∙ rw (so_far, here, more) (put_timed rows p a (fold (put_platform rows p a) [] (take i names)) x)

-- the platforms of those that were put
pub names_of_timed : (rows : List Row) (p a : List ℕ) (names : List (List ℕ)) → map (λ (t : Timed). t.platform) (map (timed rows p a) names) ≡ names
names_of_timed rows p a [] = refl
names_of_timed rows p a (n ∷ ns) = ap (λ (l : List (List ℕ)). n ∷ l) (names_of_timed rows p a ns)

-- the default of a look-up makes no difference at a place that is there
same_default : (xs : List (List ℕ)) (i : ℕ) (d e : List ℕ) → i < length xs → get_or xs i d ≡ get_or xs i e
same_default [] i d e h = absurd (omega arith)
same_default (x ∷ xs) zero d e h = refl
same_default (x ∷ xs) (suc i) d e h = same_default xs i d e (omega arith)

-- the platform of the item at a place
pub name_at : (order : List Timed) (i : ℕ) (item : Timed) → i < length order → item ≡ get_or order i item → item.platform ≡ get_or (map (λ (t : Timed). t.platform) order) i []
name_at [] i item within is = absurd (omega arith)
name_at (t ∷ ts) zero item within is = ap (λ (u : Timed). u.platform) is
name_at (t ∷ ts) (suc i) item within is = name_at ts i item (omega arith) is

-- the step at a place
pub step_is : (rows : List Row) (p a : List ℕ) (order : List Timed) (i : ℕ) (item : Timed) (e m : ℕ) → i < length order → item ≡ get_or order i item
    → e ≡ unwrap_or (efficiency_of rows p a item.platform) 0 → m ≡ portability_over rows p a (take (i + 1) (map (λ (t : Timed). t.platform) order))
    → record { platform = item.platform; efficiency = e; portability = m } ≡ step_at rows p a (map (λ (t : Timed). t.platform) order) i
unfolding step_at
step_is rows p a order i item e m within is ee em = rw (ee, em, name_at order i item within is) refl

pub efficiency_is : (rows : List Row) (p a h : List ℕ) (figure best : ℕ) → figure ≡ figure_on rows p a h → best ≡ best_on rows p h
    → cond (eqb figure 0) None (Some (best * units / figure)) ≡ efficiency_of rows p a h
unfolding efficiency_of
efficiency_is rows p a h figure best f b = rw (f, b) refl

-- the platforms up to the next item
pub next_names : (order : List Timed) (i : ℕ) (item : Timed) → i < length order → item ≡ get_or order i item
    → take (i + 1) (map (λ (t : Timed). t.platform) order) ≡ take i (map (λ (t : Timed). t.platform) order) ++ item.platform ∷ []
next_names order i item within is =
    let len : length (map (λ (t : Timed). t.platform) order) ≡ length order = length-map order (λ (t : Timed). t.platform) in
    take_more (map (λ (t : Timed). t.platform) order) i [] (omega arith) ∙ ap (λ (x : List ℕ). take i (map (λ (t : Timed). t.platform) order) ++ x ∷ []) (sym (name_at order i item within is))

-- an item among platforms with their figures has its own
pub timed_at : (rows : List Row) (p a : List ℕ) (order : List Timed) (i : ℕ) (item : Timed) → i < length order → item ≡ get_or order i item
    → order ≡ map (timed rows p a) (map (λ (t : Timed). t.platform) order) → item ≡ timed rows p a item.platform
timed_at rows p a [] i item within is all = absurd (omega arith)
timed_at rows p a (t ∷ ts) zero item within is all =
    let own : t ≡ timed rows p a t.platform = cc in
    is ∙ own ∙ ap (λ (u : Timed). timed rows p a u.platform) (sym is)
timed_at rows p a (t ∷ ts) (suc i) item within is all =
    let rest : ts ≡ map (timed rows p a) (map (λ (t : Timed). t.platform) ts) = cc in
    timed_at rows p a ts i item (omega arith) is rest
