-- Names that were found before others.
use Rattle.std.proofs.Common.{◌≡◌, ℕ, List, [], ◌∷◌, ◌++◌, Option, Some, None, refl, ap, append_assoc}
use Rattle.std.specs.Option.{option_map}
use Rattle.codebasin.specs.Words.{before}

-- names, and then others, where those are there
abbrev pub found_before : List (List ℕ) → Option (List (List ℕ)) → Option (List (List ℕ))
found_before names found = option_map (λ more. names ++ more) found

-- one more name was found
pub found_push : (names : List (List ℕ)) (name : List ℕ) (found : Option (List (List ℕ))) → found_before (names ++ (name ∷ [])) found ≡ found_before names (before (Some name) found)
found_push names name None = refl
found_push names name (Some more) = ap Some (append_assoc names (name ∷ []) more)
