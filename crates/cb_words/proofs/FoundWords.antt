-- Words that were found before others.
use Rattle.std.proofs.Common.{◌≡◌, ℕ, List, [], ◌∷◌, ◌++◌, Option, Some, None, refl, ap, append_assoc}
use Rattle.std.specs.Option.{option_map}
use Rattle.cb_words.specs.Specialise.{before}

-- words, and then others, where those are there
abbrev pub found_before : List (List ℕ) → Option (List (List ℕ)) → Option (List (List ℕ))
found_before words found = option_map (λ more. words ++ more) found

-- one more word was found
pub found_push : (words : List (List ℕ)) (word : List ℕ) (found : Option (List (List ℕ))) → found_before (words ++ (word ∷ [])) found ≡ found_before words (before (Some word) found)
found_push words word None = refl
found_push words word (Some more) = ap Some (append_assoc words (word ∷ []) more)
