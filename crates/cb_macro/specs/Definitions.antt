-- What the tokens after define define (6.10.3).
use Rattle.std.specs.Prelude.{ℕ, ◌&&◌, ◌||◌, ◌++◌, Bool, true, false, not, if◌then◌else◌, List, [], ◌∷◌, Option, Some, None, option_map, option_and_then, position, is_some, codes, length, slice_get, ◌+◌, ◌-◌, take, drop}
use Rattle.std.specs.Option.{option_map_or}
use Rattle.std.specs.List.{list_any}
use Rattle.std.specs.Str.{bytes_eq}
use Rattle.cb_tokens.specs.Kinds.{is_identifier_kind}
use Rattle.cb_tokens.specs.declared.token.Token.{Token}
use Rattle.cb_macro.specs.Signs.{is_sign, is_hash, is_paste, rest_name, is_named, is_macro_name}

-- a definition: object-like or function-like, the names of its parameters, whether ... stands behind them, and the
-- replacement list (6.10.3, paragraphs 9 and 10)
pub record Definition : Type 0 where
  pub is_function : Bool
  pub parameters : List (List ℕ)
  pub is_variadic : Bool
  pub replacement : List Token

-- what a list of parameters says: their names, and whether ... stands behind them (6.10.3 paragraph 10)
pub record Parameters : Type 0 where
  pub names : List (List ℕ)
  pub is_variadic : Bool

-- one more name in front (own)
abbrev pub with_name : List ℕ → Parameters → Parameters
with_name name p = record p { names = name ∷ p.names }

-- a list of one parameter or ..., or of one parameter, a comma and the others (6.10.3 paragraph 10; 6.10, identifier-list)
unfoldable pub some_parameters : List Token → Option Parameters
some_parameters [] = None
some_parameters (t ∷ []) =
    if is_sign (codes "...") t then Some (record { names = []; is_variadic = true })
    else (if is_identifier_kind t.kind then Some (record { names = t.text ∷ []; is_variadic = false }) else None)
some_parameters (t ∷ c ∷ ts) =
    if is_identifier_kind t.kind && is_sign (codes ",") c then option_map (with_name t.text) (some_parameters ts) else None

-- what stands between the parentheses, which may be nothing (6.10.3 paragraph 10)
unfoldable pub parameters_of : List Token → Option Parameters
parameters_of [] = Some (record { names = []; is_variadic = false })
parameters_of (t ∷ ts) = some_parameters (t ∷ ts)

-- no name stands twice (6.10.3 paragraph 6)
unfoldable pub are_distinct : List (List ℕ) → Bool
are_distinct [] = true
are_distinct (name ∷ names) = not (list_any (bytes_eq name) names) && are_distinct names

-- the names that stand for arguments in the replacement list: those of the parameters, and where ... stands behind them
-- __VA_ARGS__ as one more (6.10.3.1 paragraph 2)
unfoldable pub all_parameters : Definition → List (List ℕ)
all_parameters d = d.parameters ++ (if d.is_variadic then rest_name ∷ [] else [])

-- the place of the parameter that a token names, from 0 (6.10.3 paragraph 10)
unfoldable pub parameter_of : List (List ℕ) → Token → Option ℕ
parameter_of names t = if is_identifier_kind t.kind then position (bytes_eq t.text) names else None

-- the first token names a parameter (6.10.3.2 paragraph 1)
unfoldable pub begins_with_parameter : List (List ℕ) → List Token → Bool
begins_with_parameter names [] = false
begins_with_parameter names (t ∷ ts) = is_some (parameter_of names t)

-- behind each # stands a parameter (6.10.3.2 paragraph 1)
unfoldable pub hashes_name_parameters : List (List ℕ) → List Token → Bool
hashes_name_parameters names [] = true
hashes_name_parameters names (t ∷ ts) = (not (is_hash t) || begins_with_parameter names ts) && hashes_name_parameters names ts

-- ## stands first (6.10.3.3 paragraph 1)
unfoldable pub begins_with_paste : List Token → Bool
begins_with_paste ts = option_map_or is_paste (slice_get ts 0) false

-- ## stands last (6.10.3.3 paragraph 1)
unfoldable pub ends_with_paste : List Token → Bool
ends_with_paste ts = option_map_or is_paste (slice_get ts (length ts - 1)) false

-- the replacement list keeps the constraints: no ## at an end; in a function-like macro a parameter behind each #; no
-- __VA_ARGS__ without ... (6.10.3.3 paragraph 1, 6.10.3.2 paragraph 1, 6.10.3 paragraph 5)
unfoldable pub may_stand : Definition → Bool
may_stand d =
    not (begins_with_paste d.replacement || ends_with_paste d.replacement)
    && (not d.is_function || hashes_name_parameters (all_parameters d) d.replacement)
    && (d.is_variadic || not (list_any (is_named rest_name) d.replacement))

-- white space before the replacement list is no part of it (6.10.3 paragraph 7)
unfoldable pub without_front_space : List Token → List Token
without_front_space [] = []
without_front_space (t ∷ ts) = record t { spaced = false } ∷ ts

-- the definition where it keeps the constraints (6.10.3)
unfoldable pub checked : Definition → Option Definition
checked d = if may_stand d then Some d else None

-- the definition with these parameters: they are distinct, and none is __VA_ARGS__ (6.10.3, paragraphs 5 and 6)
unfoldable pub function_like : List Token → Parameters → Option Definition
function_like ts p =
    if are_distinct p.names && not (list_any (bytes_eq rest_name) p.names)
    then checked (record { is_function = true; parameters = p.names; is_variadic = p.is_variadic; replacement = without_front_space ts })
    else None

-- a ( directly behind the name (6.10.3 paragraph 10, lparen)
unfoldable pub is_called : List Token → Bool
is_called [] = false
is_called (t ∷ ts) = is_sign (codes "(") t && not t.spaced

-- what stands behind the ( of a function-like macro: the list of parameters, the first ), and the replacement list
-- (6.10.3 paragraph 10)
unfoldable pub function_body : List Token → Option Definition
function_body ts =
    option_and_then (λ n. option_and_then (function_like (drop (n + 1) ts)) (parameters_of (take n ts))) (position (is_sign (codes ")")) ts)

-- what stands behind the name of an object-like macro: the replacement list (6.10.3 paragraph 9)
unfoldable pub object_body : List Token → Option Definition
object_body ts = checked (record { is_function = false; parameters = []; is_variadic = false; replacement = without_front_space ts })

-- what the tokens behind a name define it as (6.10.3)
unfoldable pub body_of : List Token → Option Definition
body_of [] = object_body []
body_of (t ∷ ts) = if is_called (t ∷ ts) then function_body ts else object_body (t ∷ ts)

-- what the tokens after define define: a name and its definition, or nothing (6.10.3)
unfoldable pub defines : List Token → Option (List ℕ × Definition)
defines [] = None
defines (t ∷ ts) = if is_macro_name t then option_map (λ d. (t.text, d)) (body_of ts) else None

-- the name that the tokens after undef undefine, or none (6.10.3.5)
unfoldable pub undefines : List Token → Option (List ℕ)
undefines [] = None
undefines (t ∷ ts) = if is_macro_name t then Some t.text else None
