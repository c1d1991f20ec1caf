-- Lists of texts in a table.
use Rattle.std.proofs.Common.{◌≡◌, ℕ, suc, ◌<◌, ◌≤◌, Bool, true, false, List, [], ◌∷◌, length, map, Option, Some, None, is_some, refl, ap, nat_le}
use Rattle.std.specs.List.{list_all, filter_map, cons_option}
use Rattle.std.proofs.lemmas.Bool.{and_parts, le-leb, lt-leb}
use Rattle.toml.specs.Data.{Data, as_str, as_array}
use Rattle.toml.specs.View.{items_of}
use Rattle.cb_analysis.specs.Tables.{list_of, is_text, is_text_list, texts_of}
use Rattle.cb_analysis.specs.Faults.{first_of, list_faults, pattern_faults}
use Rattle.cb_analysis.specs.declared.fault.AnalysisKind.TheVariants.{TooMany}

pub all_mapped : {A B : Type 0} (test : B → Bool) (f : A → B) (xs : List A) → list_all (λ x. test (f x)) xs ≡ list_all test (map f xs)
all_mapped test f [] = refl
all_mapped test f (x ∷ xs) = rw (all_mapped test f xs) refl

list_of_items : (ds : List Data) → list_of (items_of ds) ≡ ds
list_of_items [] = refl
list_of_items (d ∷ ds) = ap (λ es. d ∷ es) (list_of_items ds)

-- whether the items of a list are texts
pub text_list : (d : Data) (ds : List Data) (b : Bool) → Some (items_of ds) ≡ as_array d → list_all is_text ds ≡ b → is_text_list d ≡ b
text_list d ds b is all = rw (← is, list_of_items ds) all

-- the texts of a list
pub texts_list : (d : Data) (ds : List Data) → Some (items_of ds) ≡ as_array d → texts_of d ≡ filter_map as_str ds
texts_list d ds is = rw (← is, list_of_items ds) refl

text_case : (o : Option (List ℕ)) (ts : List (List ℕ)) (n : ℕ) → is_some o ≡ true → length ts ≡ n → length (cons_option o ts) ≡ suc n
text_case None ts n h e = cc
text_case (Some t) ts n h e = ap suc e

length_texts : (ds : List Data) → list_all is_text ds ≡ true → length (filter_map as_str ds) ≡ length ds
length_texts [] h = refl
length_texts (d ∷ ds) h =
    let parts = and_parts (is_text d) (list_all is_text ds) h in
    text_case (as_str d) (filter_map as_str ds) (length ds) parts.0 (length_texts ds parts.1)

-- the first fault of a list of texts that are few is that of its patterns
pub list_passes : (place : List ℕ) (d : Data) (ds : List Data) → is_text_list d ≡ true → texts_of d ≡ filter_map as_str ds → list_all is_text ds ≡ true → length ds ≤ 1000
    → first_of (list_faults place (Some d)) ≡ first_of (pattern_faults place 0 (filter_map as_str ds))
list_passes place d ds is texts all few =
    let few' : nat_le (length (filter_map as_str ds)) 1000 ≡ true = le-leb (length (filter_map as_str ds)) 1000 (rw (length_texts ds all) few) in
    rw (is, texts, few') refl

pub list_too_many : (place : List ℕ) (d : Data) (ds : List Data) → is_text_list d ≡ true → texts_of d ≡ filter_map as_str ds → list_all is_text ds ≡ true → 1000 < length ds
    → first_of (list_faults place (Some d)) ≡ Some (record { kind = TooMany; place = place })
list_too_many place d ds is texts all many =
    let many' : nat_le (length (filter_map as_str ds)) 1000 ≡ false = lt-leb (length (filter_map as_str ds)) 1000 (rw (length_texts ds all) many) in
    rw (is, texts, many') refl

pub length_map : {A B : Type 0} (f : A → B) (xs : List A) → length (map f xs) ≡ length xs
length_map f [] = refl
length_map f (x ∷ xs) = ap suc (length_map f xs)
