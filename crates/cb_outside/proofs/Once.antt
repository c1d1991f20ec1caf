-- Texts, each once.
use Rattle.std.proofs.Common.{◌≡◌, ℕ, List, [], ◌∷◌, ◌++◌, map, append_assoc, Bool, true, false, cond, not, ◌||◌, bytes_eq, Some, None, refl, ap, sym, ◌∙◌}
use Rattle.std.specs.declared.option.Option.{Option}
use Rattle.std.specs.List.{filter, filter_map, cons_option}
use Rattle.std.proofs.lemmas.List.{append-nil, map-append}
use Rattle.std.proofs.lemmas.List.Elements.{filter-append, filter_map-append}
use Rattle.std.proofs.lemmas.Slice.Eq.{bytes_eq-Decides}
use Rattle.cb_outside.specs.Trees.{each_once}
use Rattle.cb_outside.specs.inner.Listing.{has, once_more, with_found}

-- the texts other than one
abbrev others : List ℕ → List (List ℕ) → List (List ℕ)
others y zs = filter (λ z. not (bytes_eq y z)) zs

-- equal texts are one
same_text : (xs ys : List ℕ) → bytes_eq xs ys ≡ true → xs ≡ ys
same_text xs ys is = (bytes_eq-Decides xs ys).0 is

-- leaving out the texts that are one text leaves another one where it is
still_there : (y x : List ℕ) → bytes_eq y x ≡ false → (zs : List (List ℕ)) → has x (others y zs) ≡ has x zs
still_there y x differ [] = refl
still_there y x differ (z ∷ zs) = by (bytes_eq y z) refl (still_there y x differ zs)
  where
    by : (same : Bool) → bytes_eq y z ≡ same → has x (others y zs) ≡ has x zs → has x (cond (not same) (z ∷ others y zs) (others y zs)) ≡ (bytes_eq z x || has x zs)
    by false is rest = ap (λ r. bytes_eq z x || r) rest
    by true is rest = rest ∙ sym (ap (λ t. t || has x zs) (ap (λ w. bytes_eq w x) (sym (same_text y z is)) ∙ differ))

-- one more text stands behind the others, unless it is one of them
pub each_once_more : (xs : List (List ℕ)) (x : List ℕ) → each_once (xs ++ x ∷ []) ≡ once_more (each_once xs) x
each_once_more [] x = refl
each_once_more (y ∷ ys) x = ap (λ l. y ∷ others y l) (each_once_more ys x) ∙ by (bytes_eq y x) refl
  where
    same_others : (b : Bool) → bytes_eq y x ≡ true → others y (cond b (each_once ys) (each_once ys ++ x ∷ [])) ≡ others y (each_once ys)
    same_others true is = refl
    same_others false is = filter-append (λ z. not (bytes_eq y z)) (each_once ys) (x ∷ [])
        ∙ ap (λ t. others y (each_once ys) ++ cond (not t) (x ∷ []) []) is ∙ append-nil (others y (each_once ys))

    one_more : (b : Bool) → bytes_eq y x ≡ false → others y (cond b (each_once ys) (each_once ys ++ x ∷ [])) ≡ cond b (others y (each_once ys)) (others y (each_once ys) ++ x ∷ [])
    one_more true is = refl
    one_more false is = filter-append (λ z. not (bytes_eq y z)) (each_once ys) (x ∷ []) ∙ ap (λ t. others y (each_once ys) ++ cond (not t) (x ∷ []) []) is

    outside : (b : Bool) → y ∷ cond b (others y (each_once ys)) (others y (each_once ys) ++ x ∷ []) ≡ cond b (y ∷ others y (each_once ys)) (y ∷ (others y (each_once ys) ++ x ∷ []))
    outside true = refl
    outside false = refl

    by : (same : Bool) → bytes_eq y x ≡ same → y ∷ others y (once_more (each_once ys) x)
        ≡ cond (same || has x (others y (each_once ys))) (y ∷ others y (each_once ys)) (y ∷ (others y (each_once ys) ++ x ∷ []))
    by true is = ap (λ l. y ∷ l) (same_others (has x (each_once ys)) is)
    by false is = ap (λ l. y ∷ l) (one_more (has x (each_once ys)) is) ∙ outside (has x (each_once ys))
        ∙ ap (λ b. cond b (y ∷ others y (each_once ys)) (y ∷ (others y (each_once ys) ++ x ∷ []))) (sym (still_there y x is (each_once ys)))

-- what one more item of a list adds
pub gathered : {X : Type 0} (f : X → Option (List ℕ)) (xs : List X) (x : X) → each_once (filter_map f (xs ++ x ∷ [])) ≡ with_found (each_once (filter_map f xs)) (f x)
gathered f xs x = ap each_once (filter_map-append f xs (x ∷ [])) ∙ by (f x)
  where
    by : (found : Option (List ℕ)) → each_once (filter_map f xs ++ cons_option found []) ≡ with_found (each_once (filter_map f xs)) found
    by None = ap each_once (append-nil (filter_map f xs))
    by (Some text) = each_once_more (filter_map f xs) text

-- what one more item of a list adds behind others
pub added : {X Y Z : Type 0} (g : Y → Z) (f : X → Option Y) (held : List Z) (xs : List X) (x : X)
    → (held ++ map g (filter_map f xs)) ++ map g (cons_option (f x) []) ≡ held ++ map g (filter_map f (xs ++ x ∷ []))
added g f held xs x =
    append_assoc held (map g (filter_map f xs)) (map g (cons_option (f x) []))
    ∙ ap (λ l. held ++ l) (sym (map-append g (filter_map f xs) (cons_option (f x) [])) ∙ ap (map g) (sym (filter_map-append f xs (x ∷ []))))
