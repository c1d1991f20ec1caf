-- What stands at paths, and how much of it may be kept.
use Rattle.std.specs.Prelude.{ℕ, nat_lt, if◌then◌else◌, List, [], ◌∷◌, length, map, sum_by, Option, Some, None}
use Rattle.std.specs.BTreeMap.{is_at}
use Rattle.std.specs.Map.{lookup, values_of}
use Rattle.std.specs.Ordering.{nat_cmp}
use Rattle.std.specs.Cmp.Lexicographic.{slice_cmp}
use Rattle.cb_outside.specs.Tables.{Texts}
use Rattle.cb_inputs.specs.declared.refused.LimitName.{LimitName}
use Rattle.cb_inputs.specs.declared.refused.LimitName.TheVariants.{Sources, SourceBytes, Databases, DatabaseBytes, Commands}

-- what stands at paths, in the order of the paths (own)
abbrev pub ByPath : Type 0 → Type 0
ByPath A = List (List ℕ × A)

-- what stands at a path, if something does (own)
abbrev pub value_at : {A : Type 0} → List ℕ → ByPath A → Option A
value_at path values = lookup (is_at (slice_cmp nat_cmp path)) values

-- what is read from each of the values, at the same path (own)
abbrev pub each_read : {A B : Type 0} → (A → B) → ByPath A → ByPath B
each_read read values = map (λ e. (e.0, read e.1)) values

-- how much of each may be kept (own)
abbrev pub most : LimitName → ℕ
most Sources = 20000
most SourceBytes = 268435456
most Databases = 64
most DatabaseBytes = 268435456
most Commands = 20000

-- the bytes of all texts together (own)
abbrev pub bytes_in : Texts → ℕ
bytes_in texts = sum_by (λ bytes. length bytes) (values_of texts)

-- the first amount that is more than may be kept of it (own)
abbrev pub first_over : List (LimitName × ℕ) → Option (LimitName × ℕ)
first_over [] = None
first_over ((name, n) ∷ amounts) = if nat_lt (most name) n then Some (name, n) else first_over amounts

-- how much there is of sources, in the order in which limits are looked at (own)
abbrev pub source_amounts : Texts → List (LimitName × ℕ)
source_amounts texts = (Sources, length texts) ∷ (SourceBytes, bytes_in texts) ∷ []

-- how much there is of databases (own)
abbrev pub database_amounts : Texts → List (LimitName × ℕ)
database_amounts texts = (Databases, length texts) ∷ (DatabaseBytes, bytes_in texts) ∷ []
