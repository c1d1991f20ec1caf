-- Steps of reading a definition.
use Rattle.std.specs.Prelude.{◌≡◌, ℕ, ◌<◌, ◌++◌, Bool, true, false, List, [], ◌∷◌, length, drop, Option, Some, None, option_map}
use Rattle.cb_tokens.specs.declared.token.Token.{Token}
use Rattle.cb_macro.specs.declared.parameters.Step.{Step}
use Rattle.cb_macro.specs.declared.parameters.Step.TheVariants as steps
use Rattle.cb_macro.specs.declared.fault.DefineFault.{DefineFault}
use Rattle.cb_macro.specs.declared.fault.DefineFault.TheVariants.{Bad, NoMemory}
use Rattle.cb_macro.specs.Definitions.{Parameters, with_name, some_parameters}
use Rattle.cb_macro.specs.Parts.{quoted_at}

-- the fact holds where the fault is Bad (own)
abbrev pub OnBad : DefineFault → Type 0 → Type 0
OnBad Bad P = P
OnBad NoMemory P = Unit {0}

-- the parameter that # turns into a string at the front of these tokens (6.10.3.2 paragraph 1)
abbrev pub quoted_front : Bool → List (List ℕ) → List Token → Option ℕ
quoted_front is_function names [] = None
quoted_front is_function names (t ∷ []) = None
quoted_front is_function names (t ∷ u ∷ ts) = quoted_at is_function names t u

-- some names in front of what is read behind them (own)
abbrev pub with_names : List (List ℕ) → Option Parameters → Option Parameters
with_names names None = None
with_names names (Some p) = Some (record p { names = names ++ p.names })

-- what stands at the front of a list of parameters (6.10.3 paragraph 10)
abbrev pub IsStep : List Token → Step → Type 0
IsStep ts steps.Bad = some_parameters ts ≡ None
IsStep ts steps.Rest = some_parameters ts ≡ Some (record { names = []; is_variadic = true })
IsStep ts (steps.Last name) = some_parameters ts ≡ Some (record { names = name.now ∷ []; is_variadic = false })
IsStep ts (steps.More name) = (1 < length ts) × (some_parameters ts ≡ option_map (with_name name.now) (some_parameters (drop 2 ts)))
