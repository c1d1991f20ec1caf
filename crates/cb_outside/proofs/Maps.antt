-- Maps whose keys are read as texts.
use Rattle.std.proofs.Common.{◌≡◌, List, [], ◌∷◌, map, Bool, true, false, cond, refl, ap, ◌∙◌}
use Rattle.std.specs.declared.cmp.Ordering.{Ordering}
use Rattle.std.specs.declared.cmp.Ordering.TheVariants.{Less, Equal, Greater}
use Rattle.std.specs.Ordering.{match_ordering}
use Rattle.std.specs.List.{AllByRecursion}
use Rattle.std.specs.List.Sorted.{IsStrictlySortedBy}
use Rattle.std.specs.BTreeMap.{insert_entry}
use Rattle.std.specs.Map.{remove_entry, keys_of}

-- a choice by the order of two keys, read by a function
on_order : {A B : Type 0} (f : A → B) (o : Ordering) (a b c : A) → f (match_ordering o a b c) ≡ match_ordering o (f a) (f b) (f c)
on_order f Less a b c = refl
on_order f Equal a b c = refl
on_order f Greater a b c = refl

-- a choice by a test, read by a function
on_test : {A B : Type 0} (f : A → B) (t : Bool) (a b : A) → f (cond t a b) ≡ cond t (f a) (f b)
on_test f true a b = refl
on_test f false a b = refl

-- a new entry, where the order is that of the texts
pub texts_put : {K L X : Type 0} (f : K → L) (d : L → L → Ordering) (es : List (K × X)) (k : K) (v : X)
    → map (λ e. (f e.0, e.1)) (insert_entry (λ a b. d (f a) (f b)) es k v) ≡ insert_entry d (map (λ e. (f e.0, e.1)) es) (f k) v
texts_put f d [] k v = refl
texts_put {X = X} f d (e ∷ es) k v =
    on_order (map (λ e. (f e.0, e.1))) (d (f k) (f e.0)) ((k, v) ∷ e ∷ es) ((e.0, v) ∷ es) (e ∷ insert_entry (λ a b. d (f a) (f b)) es k v)
    ∙ ap (λ l. match_ordering (d (f k) (f e.0)) ((f k, v) ∷ (f e.0, e.1) ∷ map (λ e. (f e.0, e.1)) es) ((f e.0, v) ∷ map (λ e. (f e.0, e.1)) es) ((f e.0, e.1) ∷ l)) (texts_put f d es k v)

-- an entry less, where the test is one of the texts
pub texts_removed : {K L X : Type 0} (f : K → L) (test : L → Bool) (es : List (K × X))
    → map (λ e. (f e.0, e.1)) (remove_entry (λ k. test (f k)) es) ≡ remove_entry test (map (λ e. (f e.0, e.1)) es)
texts_removed f test [] = refl
texts_removed f test (e ∷ es) =
    on_test (map (λ e. (f e.0, e.1))) (test (f e.0)) es (e ∷ remove_entry (λ k. test (f k)) es)
    ∙ ap (λ l. cond (test (f e.0)) (map (λ e. (f e.0, e.1)) es) ((f e.0, e.1) ∷ l)) (texts_removed f test es)

-- keys that rise by their texts have texts that rise
below_texts : {K L X : Type 0} (f : K → L) (P : L → Type 0) (es : List (K × X)) → AllByRecursion (λ k. P (f k)) (keys_of es) → AllByRecursion P (keys_of (map (λ e. (f e.0, e.1)) es))
below_texts f P [] all = tt
below_texts f P (e ∷ es) all = (all.0, below_texts f P es all.1)

pub texts_rise : {K L X : Type 0} (f : K → L) (d : L → L → Ordering) (es : List (K × X)) → IsStrictlySortedBy (λ a b. d (f a) (f b)) (keys_of es) → IsStrictlySortedBy d (keys_of (map (λ e. (f e.0, e.1)) es))
unfolding IsStrictlySortedBy
texts_rise f d [] rise = tt
texts_rise f d (e ∷ es) rise = (below_texts f (λ l. d (f e.0) l ≡ Less) es rise.0, texts_rise f d es rise.1)
