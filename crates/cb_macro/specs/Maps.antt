-- The map of macros (6.10.3, 6.10.3.5).
use Rattle.std.specs.Prelude.{◌≡◌, ◌≢◌, ℕ, Bool, true, false, List, [], ◌∷◌, Option, Some, None, option_map, option_and_then, find, position, swap_remove, if◌then◌else◌}
use Rattle.std.specs.Option.{option_map_or}
use Rattle.std.specs.Str.{bytes_eq}
use Rattle.cb_macro.specs.Definitions.{Definition}

-- what a name is defined as, or nothing (6.10.3 paragraph 9)
abbrev pub found : List (List ℕ × Definition) → List ℕ → Option Definition
found es name = option_map (λ e. e.1) (find (λ e. bytes_eq name e.0) es)

-- the place of a name in the map, from 0, and what it is defined as (own)
unfoldable pub found_at : List (List ℕ × Definition) → List ℕ → Option (ℕ × Definition)
found_at es name = option_and_then (λ place. option_map (λ d. (place, d)) (found es name)) (position (λ e. bytes_eq name e.0) es)

-- whether a definition takes the place of a different one (6.10.3 paragraph 2)
abbrev pub IsChange : Option Definition → Definition → Bool → Type 0
IsChange None d different = different ≡ false
IsChange (Some other) d true = other ≢ d
IsChange (Some other) d false = other ≡ d

-- the map with a name defined: a name that is there keeps its place, and a new one goes last (own)
abbrev pub with_definition : List ℕ → Definition → List (List ℕ × Definition) → List (List ℕ × Definition)
with_definition name d [] = (name, d) ∷ []
with_definition name d (e ∷ es) = if bytes_eq name e.0 then (e.0, d) ∷ es else e ∷ with_definition name d es

-- the map without a name, in whose place the last one goes (6.10.3.5 paragraph 2; the place is own)
abbrev pub without : List ℕ → List (List ℕ × Definition) → List (List ℕ × Definition)
without name [] = []
without name (e ∷ es) = option_map_or (λ place. swap_remove (e ∷ es) place e) (position (λ p. bytes_eq name p.0) (e ∷ es)) (e ∷ es)
