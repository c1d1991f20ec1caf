-- Lists, item by item.
use Rattle.std.proofs.Common.{◌≡◌, ℕ, ◌+◌, ◌-◌, ◌<◌, List, [], ◌∷◌, ◌++◌, length, get_or, take, drop, drop-cons, add-one, arith, length-drop, refl}
use Rattle.std.specs.List.{filter_map}
use Rattle.std.proofs.lemmas.List.{take_all, take_more}
use Rattle.std.proofs.lemmas.List.Elements.{filter_map-append}
use Rattle.cb_words.specs.Parts.{Part}
use Rattle.cb_words.specs.Values.{plain_word}

-- the first item that is left
pub drop_one : {A : Type 0} (xs : List A) (i : ℕ) (d : A) → i < length xs → drop i xs ≡ get_or xs i d ∷ drop (i + 1) xs
drop_one xs i d within = rw add-one (drop-cons xs i d within)

-- all that is left is taken
pub take_rest : {A : Type 0} (xs : List A) (n : ℕ) → take (length xs - n) (drop n xs) ≡ drop n xs
take_rest xs n = take_all (length xs - n) (drop n xs) (omega (arith, length-drop n xs))

-- the words of one more part
pub words_more : (parts : List Part) (i : ℕ) (d : Part) (words more : List (List ℕ)) → i < length parts → words ≡ filter_map plain_word (take i parts)
    → more ≡ words ++ filter_map plain_word (get_or parts i d ∷ []) → more ≡ filter_map plain_word (take (i + 1) parts)
words_more parts i d words more within e f =
    rw (take_more parts i d within, filter_map-append plain_word (take i parts) (get_or parts i d ∷ []), ← e) f

-- a list without an item is empty
pub no_item : {A : Type 0} (xs : List A) → 0 ≡ length xs → [] ≡ xs
no_item [] e = refl
no_item (x ∷ xs) e = absurd (omega (arith, e))
