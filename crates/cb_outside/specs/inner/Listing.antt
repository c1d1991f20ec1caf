-- How the names in a folder are gathered. No public clause names these words.
use Rattle.std.specs.Prelude.{ℕ, Bool, cond, List, [], ◌∷◌, ◌++◌, bytes_eq, Option, Some, None}
use Rattle.std.specs.List.{list_any}

-- a text is one of these
abbrev pub has : List ℕ → List (List ℕ) → Bool
has text texts = list_any (λ t. bytes_eq t text) texts

-- texts and one more at their end, unless it is one of them
abbrev pub once_more : List (List ℕ) → List ℕ → List (List ℕ)
once_more texts text = cond (has text texts) texts (texts ++ text ∷ [])

-- texts and one more where one was found
abbrev pub with_found : List (List ℕ) → Option (List ℕ) → List (List ℕ)
with_found texts None = texts
with_found texts (Some text) = once_more texts text
