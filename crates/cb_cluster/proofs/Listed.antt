-- Lists made by going over the platforms.
use Rattle.std.proofs.Common.{◌≡◌, ℕ, ◌+◌, ◌-◌, Bool, true, false, eqb, List, [], ◌∷◌, ◌++◌, filter, get_or, refl, sym, ap, ◌∙◌, arith}
use Rattle.std.specs.List.{range_with_len}
use Rattle.std.proofs.lemmas.Bool.{cond-true, cond-false, eq-eqb, ne_eqb}
use Rattle.std.proofs.lemmas.List.{append-nil, map-id}
use Rattle.std.proofs.lemmas.List.FromFn.{map-range_with_len_more}
use Rattle.std.proofs.lemmas.List.Elements.{filter-append}
use Rattle.cb_cluster.specs.Names.{singles, name_of}

pub range_more : (a n : ℕ) → range_with_len a (n + 1) ≡ range_with_len a n ++ (a + n) ∷ []
range_more a n =
    sym (map-id (range_with_len a (n + 1))) ∙ map-range_with_len_more (λ k. k) a n (a + n) refl
    ∙ ap (λ r. r ++ (a + n) ∷ []) (map-id (range_with_len a n))

pub singles_more : (n : ℕ) → singles (n + 1) ≡ singles n ++ (n + 1) ∷ []
singles_more n = range_more 1 n ∙ ap (λ k. range_with_len 1 n ++ k ∷ []) (omega arith)

-- one more platform, kept or not
pub filter_yes : (p : ℕ → Bool) (n : ℕ) → p (n + 1) ≡ true → filter p (range_with_len 1 (n + 1)) ≡ filter p (range_with_len 1 n) ++ (n + 1) ∷ []
filter_yes p n h =
    ap (filter p) (singles_more n) ∙ filter-append p (range_with_len 1 n) ((n + 1) ∷ [])
    ∙ ap (λ r. filter p (range_with_len 1 n) ++ r) (cond-true (p (n + 1)) ((n + 1) ∷ []) [] h)

pub filter_no : (p : ℕ → Bool) (n : ℕ) → p (n + 1) ≡ false → filter p (range_with_len 1 (n + 1)) ≡ filter p (range_with_len 1 n)
filter_no p n h =
    ap (filter p) (singles_more n) ∙ filter-append p (range_with_len 1 n) ((n + 1) ∷ [])
    ∙ (ap (λ r. filter p (range_with_len 1 n) ++ r) (cond-false (p (n + 1)) ((n + 1) ∷ []) [] h) ∙ append-nil (filter p (range_with_len 1 n)))

pub name_at : (names : List ℕ) (at : ℕ) → name_of names (at + 1) ≡ get_or names at 0
name_at names at = let e : at + 1 - 1 ≡ at = omega arith in ap (λ k. get_or names k 0) e

-- one more platform of a cluster, or of another one
pub member_yes : (names : List ℕ) (cluster at : ℕ) → get_or names at 0 ≡ cluster → eqb (name_of names (at + 1)) cluster ≡ true
member_yes names cluster at h = eq-eqb _ _ (name_at names at ∙ h)

pub member_no : (names : List ℕ) (cluster at : ℕ) → (get_or names at 0 ≡ cluster → ⊥) → eqb (name_of names (at + 1)) cluster ≡ false
member_no names cluster at h = ne_eqb _ _ (λ e. h (sym (name_at names at) ∙ e))
