-- The first item of tokens, the names behind a parameter, and distinct names.
use Rattle.std.proofs.Common.{◌≡◌, ◌<◌, ◌≤◌, ◌+◌, ℕ, Bool, true, false, not, ◌&&◌, List, [], ◌∷◌, ◌++◌, length, drop, take, get_or, subst, ◌||◌, Option, Some, None, option_map, refl, sym, ap, ◌∙◌, append_assoc, append-nil, arith}
use Rattle.std.specs.List.{list_any}
use Rattle.std.specs.Str.{bytes_eq}
use Rattle.std.proofs.lemmas.List.{drop_more, take_more, drop_all, drop-drop, take-append-drop}
use Rattle.std.proofs.lemmas.List.Folds.{list_any-append}
use Rattle.std.proofs.lemmas.Slice.Eq.{bytes_eq-Decides}
use Rattle.cb_tokens.specs.declared.token.Token.{Token}
use Rattle.cb_macro.specs.declared.item.Before.{Before}
use Rattle.cb_paste.specs.declared.part.Part.{Part}
use Rattle.cb_macro.specs.Definitions.{hashes_name_parameters, begins_with_parameter, Parameters, with_name, are_distinct, some_parameters}
use Rattle.cb_macro.specs.Signs.{is_hash}
use Rattle.cb_macro.specs.Parts.{items, glues, token_item, quoted_item}
use Rattle.cb_macro.specs.inner.Reading.{quoted_front, with_names}

-- # with its parameter is the first item
pub items-quoted : (f : Bool) (ns : List (List ℕ)) (ts : List Token) (i : ℕ) (d : Token)
    → quoted_front f ns ts ≡ Some i → items f ns ts ≡ quoted_item (get_or ts 0 d) i ∷ items f ns (drop 2 ts)
unfolding items
items-quoted f ns [] i d e = cc
items-quoted f ns (t ∷ []) i d e = cc
items-quoted f ns (t ∷ u ∷ ts) i d e = rw (e, items)

-- another token is the first item
pub items-token : (f : Bool) (ns : List (List ℕ)) (ts : List Token) (d : Token)
    → 0 < length ts → quoted_front f ns ts ≡ None → items f ns ts ≡ token_item ns (get_or ts 0 d) ∷ items f ns (drop 1 ts)
unfolding items
items-token f ns [] d h e = absurd (omega arith)
items-token f ns (t ∷ []) d h e = refl
items-token f ns (t ∷ u ∷ ts) d h e = rw (e, items)

-- no items, no parts
pub glues-none : (before : Before) (f : Bool) (ns : List (List ℕ)) → glues before (items f ns []) ≡ []
unfolding items glues
glues-none before f ns = refl

-- no tokens are left, so the parts are all
pub parts_end : (before : Before) (f : Bool) (ns : List (List ℕ)) (ts : List Token) (at : ℕ) (done all : List Part)
    → length ts ≤ at → done ++ glues before (items f ns (drop at ts)) ≡ all → done ≡ all
parts_end before f ns ts at done all h held =
    sym (append-nil done) ∙ (ap (λ more. done ++ more) (sym (glues-none before f ns)) ∙ rw (drop_all at ts h) at held)

-- one more name goes behind those in front
pub with_more : (names : List (List ℕ)) (name : List ℕ) (o : Option Parameters)
    → with_names names (option_map (with_name name) o) ≡ with_names (names ++ name ∷ []) o
with_more names name None = refl
with_more names name (Some p) = rw append_assoc

-- two tests that tell the same are equal
both_ways : (x y : Bool) → (x ≡ true → y ≡ true) → (y ≡ true → x ≡ true) → x ≡ y
both_ways true y to from = sym (to refl)
both_ways false true to from = from refl
both_ways false false to from = refl

-- two texts are compared alike from both sides
same_both_ways : (a b : List ℕ) → bytes_eq a b ≡ bytes_eq b a
same_both_ways a b =
    both_ways (bytes_eq a b) (bytes_eq b a)
    (λ h. (bytes_eq-Decides b a).1 (sym ((bytes_eq-Decides a b).0 h)))
    (λ h. (bytes_eq-Decides a b).1 (sym ((bytes_eq-Decides b a).0 h)))

-- four tests in another order
in_order : (x a b y : Bool) → (not (a || (x || false)) && (b && not y)) ≡ ((not a && b) && not (x || y))
in_order true true b y = refl
in_order true false true y = refl
in_order true false false y = refl
in_order false true b y = refl
in_order false false true y = refl
in_order false false false y = refl

-- names with one more are distinct where it is new
pub distinct-push : (names : List (List ℕ)) (name : List ℕ)
    → are_distinct (names ++ name ∷ []) ≡ (are_distinct names && not (list_any (bytes_eq name) names))
unfolding are_distinct
distinct-push [] name = refl
distinct-push (n ∷ names) name =
    rw (list_any-append (bytes_eq n) names (name ∷ []), distinct-push names name, same_both_ways n name)
    (in_order (bytes_eq name n) (list_any (bytes_eq n) names) (are_distinct names) (list_any (bytes_eq name) names))

-- what is false with one part stays so with another
stays_false : (a m b c : Bool) → (b ≡ false → c ≡ false) → (not a && b) ≡ false → (not (a || m) && c) ≡ false
stays_false true m b c more h = refl
stays_false false true b c more h = refl
stays_false false false b c more h = more h

-- a name that stands twice does so with others behind it
pub distinct-front : (names more : List (List ℕ)) → are_distinct names ≡ false → are_distinct (names ++ more) ≡ false
unfolding are_distinct
distinct-front [] more h = cc
distinct-front (n ∷ names) more h =
    rw (list_any-append (bytes_eq n) names more)
    (stays_false (list_any (bytes_eq n) names) (list_any (bytes_eq n) more) (are_distinct names) (are_distinct (names ++ more)) (distinct-front names more) h)

-- a name of a list that stands before it too
pub stands_twice : (names : List (List ℕ)) (i : ℕ) (d : List ℕ)
    → i < length names → list_any (bytes_eq (get_or names i d)) (take i names) ≡ true → are_distinct names ≡ false
stands_twice names i d h twice =
    let front : are_distinct (take (i + 1) names) ≡ false =
    rw (take_more names i d h, distinct-push (take i names) (get_or names i d), twice) (and_false (are_distinct (take i names))) in
    subst (λ ns. are_distinct ns ≡ false) (take-append-drop (i + 1) names) (distinct-front (take (i + 1) names) (drop (i + 1) names) front)
  where
    and_false : (b : Bool) → (b && false) ≡ false
    and_false true = refl
    and_false false = refl

-- one more distinct name of a list
pub distinct_more : (names : List (List ℕ)) (i : ℕ) (d : List ℕ)
    → i < length names → are_distinct (take i names) ≡ true → list_any (bytes_eq (get_or names i d)) (take i names) ≡ false
    → are_distinct (take (i + 1) names) ≡ true
distinct_more names i d h front new = rw (take_more names i d h, distinct-push (take i names) (get_or names i d), front, new)

-- no names are distinct
pub distinct_none : are_distinct [] ≡ true
unfolding are_distinct
distinct_none = refl

-- a parameter and a comma at the front
pub more_read : (ts : List Token) (at : ℕ) (names : List (List ℕ)) (name : List ℕ) (all : Option Parameters) (front : List Token)
    → front ≡ drop at ts → some_parameters front ≡ option_map (with_name name) (some_parameters (drop 2 front))
    → with_names names (some_parameters (drop at ts)) ≡ all
    → with_names (names ++ name ∷ []) (some_parameters (drop (at + 2) ts)) ≡ all
more_read ts at names name all front e step held =
    rw (← drop-drop 2 at ts, ← e) (sym (with_more names name (some_parameters (drop 2 front))) ∙ (ap (with_names names) (sym step) ∙ rw e held))

-- no parameters are left behind a comma
pub none_read : (ts : List Token) (at : ℕ) (names : List (List ℕ)) (all : Option Parameters)
    → length ts ≤ at → with_names names (some_parameters (drop at ts)) ≡ all → all ≡ None
unfolding some_parameters
none_read ts at names all h held = sym (rw (drop_all at ts h) at held)

-- tests that are turned round
pub not_true : (b : Bool) → not b ≡ true → b ≡ false
not_true true h = cc
not_true false h = refl

pub not_false : (b : Bool) → not b ≡ false → b ≡ true
not_false true h = refl
not_false false h = cc

-- the names so far, with one more
pub held_more : (names : List (List ℕ)) (i : ℕ) (d : List ℕ) (all new : List (List ℕ)) (name : List ℕ)
    → i < length names → all ≡ take i names → name ≡ get_or names i d → new ≡ all ++ name ∷ [] → new ≡ take (i + 1) names
held_more names i d all new name h held is added = added ∙ rw (held, is) (sym (take_more names i d h))

-- whether parameters stand behind the hashes of tokens from a place on
pub hashes_more : (names : List (List ℕ)) (ts : List Token) (at : ℕ) (d : Token) → at < length ts
    → hashes_name_parameters names (drop at ts)
    ≡ ((not (is_hash (get_or ts at d)) || begins_with_parameter names (drop (at + 1) ts)) && hashes_name_parameters names (drop (at + 1) ts))
unfolding hashes_name_parameters
hashes_more names ts at d h = rw (drop_more ts at d h)

pub hashes_end : (names : List (List ℕ)) (ts : List Token) (at : ℕ) → length ts ≤ at → hashes_name_parameters names (drop at ts) ≡ true
unfolding hashes_name_parameters
hashes_end names ts at h = rw (drop_all at ts h)
