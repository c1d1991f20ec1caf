-- The entries of a table, as they are seen.
use Rattle.std.proofs.Common.{◌≡◌, ◌<◌, ℕ, Bool, true, false, cond, List, [], ◌∷◌, map, Option, Some, None, option_map, find, position, length, refl, sym, ap, get_or, ◌∙◌, subst, arith}
use Rattle.std.specs.Prelude.{if◌then◌else◌, swap_remove, slice_get, IsSomeAnd, MatchOption}
use Rattle.std.specs.Option.{option_map_or}
use Rattle.std.specs.Str.{bytes_eq}
use Rattle.std.specs.Map.{lookup, keys_of, KeepsOthers}
use Rattle.std.proofs.lemmas.List.Folds.{find_at}
use Rattle.std.proofs.lemmas.List.Quantifiers.{position-Some}
use Rattle.std.proofs.lemmas.Slice.Eq.{bytes_eq-Decides}
use Rattle.std.proofs.lemmas.Option.{slice_get-get_or}
use Rattle.indexmap.specs.IndexMap.{insert_entry, swap_remove_entry}
use Rattle.indexmap.proofs.SetLemmas.{map-swap_remove}
use Rattle.cb_macro.specs.Definitions.{Definition}
use Rattle.cb_macro.specs.Maps.{found, found_at, IsChange, with_definition, without}
use Rattle.cb_macro.proofs.NameLists.{position-map}

-- entries with keys that are seen as names
abbrev pub seen : {K : Type 0} → (K → List ℕ) → List (K × Definition) → List (List ℕ × Definition)
seen key es = map (λ e. (key e.0, e.1)) es

-- what a query finds is what its name is defined as
pub lookup-seen : {K : Type 0} (key : K → List ℕ) (name : List ℕ) (es : List (K × Definition))
    → lookup (λ k. bytes_eq name (key k)) es ≡ found (seen key es) name
lookup-seen key name [] = refl
lookup-seen key name (e ∷ es) = step (bytes_eq name (key e.0)) (key e.0) e.1 _ _ (lookup-seen key name es)
  where
    step : (b : Bool) (n : List ℕ) (d : Definition) (o : Option Definition) (p : Option (List ℕ × Definition))
        → o ≡ option_map (λ q. q.1) p → cond b (Some d) o ≡ option_map (λ q. q.1) (cond b (Some (n, d)) p)
    step true n d o p h = refl
    step false n d o p h = h

-- one more entry, as it is seen
pub insert-seen : {K : Type 0} (key : K → List ℕ) (es : List (K × Definition)) (k : K) (d : Definition)
    → seen key (insert_entry (λ x y. bytes_eq (key x) (key y)) es k d) ≡ with_definition (key k) d (seen key es)
insert-seen key [] k d = refl
insert-seen {K} key (e ∷ es) k d = step (bytes_eq (key k) (key e.0)) _ _ (insert-seen key es k d)
  where
    step : (b : Bool) (more : List (K × Definition)) (others : List (List ℕ × Definition)) → seen key more ≡ others
        → seen key (cond b ((e.0, d) ∷ es) (e ∷ more)) ≡ cond b ((key e.0, d) ∷ seen key es) ((key e.0, e.1) ∷ others)
    step true more others h = refl
    step false more others h = ap (λ os. (key e.0, e.1) ∷ os) h

-- the place of a query is that of its name
pub place-seen : {K : Type 0} (key : K → List ℕ) (name : List ℕ) (es : List (K × Definition))
    → position (λ k. bytes_eq name (key k)) (keys_of es) ≡ position (λ p. bytes_eq name p.0) (seen key es)
place-seen key name es =
    sym (position-map (λ e. e.0) (λ k. bytes_eq name (key k)) es) ∙ position-map (λ e. (key e.0, e.1)) (λ p. bytes_eq name p.0) es

-- one entry less, as it is seen
pub remove-seen : {K : Type 0} (key : K → List ℕ) (name : List ℕ) (es : List (K × Definition))
    → seen key (swap_remove_entry (λ k. bytes_eq name (key k)) es) ≡ without name (seen key es)
remove-seen key name [] = refl
remove-seen {K} key name (e ∷ es) =
    by_place (position (λ k. bytes_eq name (key k)) (keys_of (e ∷ es)))
    ∙ ap (λ o. option_map_or (λ i. swap_remove (seen key (e ∷ es)) i (key e.0, e.1)) o (seen key (e ∷ es))) (place-seen key name (e ∷ es))
  where
    some_entries : 0 < length (e ∷ es)
    some_entries = omega arith

    by_place : (o : Option ℕ)
        → seen key (option_map_or (λ i. swap_remove (e ∷ es) i e) o (e ∷ es))
        ≡ option_map_or (λ i. swap_remove (seen key (e ∷ es)) i (key e.0, e.1)) o (seen key (e ∷ es))
    by_place None = refl
    by_place (Some i) = map-swap_remove (λ e. (key e.0, e.1)) (e ∷ es) i e some_entries

-- where one name is changed, each other one stays
pub update-seen : {K : Type 0} (key : K → List ℕ) (name other : List ℕ) (old new : List (K × Definition)) (w : Option Definition)
    → lookup (λ k. bytes_eq name (key k)) new ≡ w
    → KeepsOthers (λ x y. bytes_eq (key x) (key y)) (λ k. bytes_eq name (key k)) old new
    → found (seen key new) other ≡ (if bytes_eq other name then w else found (seen key old) other)
unfolding KeepsOthers
update-seen {K} key name other old new w here keeps = by_name (bytes_eq other name) refl
  where
    by_name : (b : Bool) → bytes_eq other name ≡ b → found (seen key new) other ≡ (if b then w else found (seen key old) other)
    by_name true same = rw ((bytes_eq-Decides other name).0 same) (sym (lookup-seen key name new) ∙ here)
    by_name false apart =
        sym (lookup-seen key other new)
        ∙ (keeps (λ k. bytes_eq other (key k)) (λ x y h. ap (λ n. bytes_eq n (key y)) ((bytes_eq-Decides other (key x)).0 h))
        (λ k h. ap (λ n. bytes_eq other n) (sym ((bytes_eq-Decides name (key k)).0 h)) ∙ apart)
        ∙ lookup-seen key other old)

-- an entry of which nothing is read
no_entry : List ℕ × Definition
no_entry = ([], record { is_function = false; parameters = []; is_variadic = false; replacement = [] })

-- the place that is found lies in the map
pub place-within : (es : List (List ℕ × Definition)) (name : List ℕ) (r : Option ℕ) → r ≡ position (λ p. bytes_eq name p.0) es
    → MatchOption r (found_at es name ≡ None) (λ place. place < length es)
unfolding found_at
place-within es name None h = rw (← h)
place-within es name (Some i) h = (position-Some (λ p. bytes_eq name p.0) es i no_entry (sym h)).0

-- the place of the first entry that passes
is_first : (b : Bool) (n i : ℕ) → cond b (Some n) None ≡ Some i → n ≡ i
is_first true n i h = cc
is_first false n i h = cc

-- the definition in the place that is found
pub place-found : (es : List (List ℕ × Definition)) (name : List ℕ) (r : Option ℕ) → r ≡ position (λ p. bytes_eq name p.0) es
    → MatchOption r (found_at es name ≡ None) (λ place. IsSomeAnd (slice_get es place) (λ e. found_at es name ≡ Some (place, e.1)))
unfolding found_at
place-found es name None h = rw (← h)
place-found es name (Some i) h =
    let within = (position-Some (λ p. bytes_eq name p.0) es i no_entry (sym h)).0 in
    let there = slice_get-get_or es i no_entry within in
    let first : find (λ p. bytes_eq name p.0) es ≡ Some (get_or es i no_entry) =
    find_at (λ p. bytes_eq name p.0) es ∙ (ap (λ n. slice_get es n) (is_first _ _ i (sym h)) ∙ there) in
    rw there (rw (← h, first))

-- a definition takes the place of the one that was looked up
pub change-seen : {K : Type 0} (key : K → List ℕ) (k : K) (old new : List (K × Definition)) (d : Definition) (o : Option Definition) (different : Bool)
    → lookup (λ x. bytes_eq (key k) (key x)) new ≡ Some d → o ≡ lookup (λ x. bytes_eq (key k) (key x)) old
    → ((body : Definition) → found (seen key new) (key k) ≡ Some body → IsChange o body different) → IsChange (found (seen key old) (key k)) d different
change-seen key k old new d o different here before is =
    subst (λ o. IsChange o d different) (before ∙ lookup-seen key (key k) old) (is d (sym (lookup-seen key (key k) new) ∙ here))
