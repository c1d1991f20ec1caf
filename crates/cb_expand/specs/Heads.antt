-- What the first token of a list is to macro replacement (6.10.3, 6.10.3.4, 6.10.1).
use Rattle.std.specs.Prelude.{ℕ, suc, ◌==◌, ◌&&◌, ◌||◌, Bool, if◌then◌else◌, List, [], ◌∷◌, length, map, Option, Some, None, is_some, codes}
use Rattle.std.specs.List.{zip}
use Rattle.std.specs.Str.{bytes_eq}
use Rattle.cb_tokens.specs.Kinds.{is_identifier_kind}
use Rattle.cb_tokens.specs.declared.token.TokenKind.TheVariants as kinds
use Rattle.cb_expand.specs.declared.mode.Mode.{Mode}
use Rattle.cb_expand.specs.declared.mode.Mode.TheVariants.{Plain, Condition}
use Rattle.cb_paste.specs.declared.part.Part.{Part}
use Rattle.cb_paste.specs.Shades.{Shaded, all_shaded}
use Rattle.cb_paste.specs.Puts.{Given, puts}
use Rattle.cb_macro.specs.Definitions.{Definition, all_parameters}
use Rattle.cb_macro.specs.Maps.{found_at}
use Rattle.cb_macro.specs.Parts.{parts, is_shown, is_raw}
use Rattle.cb_expand.specs.Arguments.{sign_of_token, is_open, is_close, Gathered, gather}

-- the names with their definitions, each at its place; a hide set is a test on these places (own)
abbrev pub Named : Type 0
Named = List (List ℕ × Definition)

-- what replaces a call: the parts of its macro; whether white space stands before its name; what the tokens put in hide beside
-- what they hide already; and the arguments as they are written (6.10.3.1)
pub record Insertion : Type 0 where
  pub parts : List Part
  pub spaced : Bool
  pub hides : ℕ → Bool
  pub written : List (List Shaded)

-- what the first token of a list is: one that stands, with what is left; or the name of a call, with what replaces it, its
-- arguments that are to be expanded, and what stands behind it (6.10.3 paragraph 10)
pub data Head : Type 0 where
  Stands : Shaded → List Shaded → Head
  Calls : Insertion → List (List Shaded) → List Shaded → Head

-- each argument whose place passes a test, and nothing in place of another (own)
abbrev pub only : (ℕ → Bool) → ℕ → List (List Shaded) → List (List Shaded)
only test i [] = []
only test i (a ∷ others) = (if test i then a else []) ∷ only test (suc i) others

-- a call without arguments, of an object-like macro: its tokens hide what the name hides, and the macro (6.10.3 paragraph 9;
-- Prosser's algorithm)
abbrev pub object_call : ℕ → Definition → Shaded → List Shaded → Head
object_call place d t ts =
    Calls (record { parts = parts d; spaced = t.spaced; hides = λ n. (n == place) || t.hides n; written = [] }) [] ts

-- a call with its arguments: its tokens hide what both the name and the closing parenthesis hide, and the macro; an argument is
-- taken as written where its parameter is an operand of # or ##, and expanded where it stands elsewhere (6.10.3 paragraph 10,
-- 6.10.3.1 paragraph 1; Prosser's algorithm)
abbrev pub function_call : ℕ → Definition → Shaded → Gathered → Head
function_call place d t g =
    Calls
    (record { parts = parts d; spaced = t.spaced; hides = λ n. (n == place) || (t.hides n && g.close.hides n); written = only (λ i. is_raw i (parts d)) 0 g.arguments })
    (only (λ i. is_shown i (parts d)) 0 g.arguments)
    g.rest

-- the arguments behind the name of a function-like macro (6.10.3 paragraph 10)
unfoldable pub gathered : Definition → List Shaded → Option Gathered
gathered d [] = None
gathered d (p ∷ ts) = if is_open (sign_of_token p) then gather d.is_variadic (length (all_parameters d)) ts else None

-- a name that is no call stands (6.10.3 paragraph 10)
abbrev pub called : ℕ → Definition → Shaded → List Shaded → Option Gathered → Head
called place d t ts None = Stands t ts
called place d t ts (Some g) = function_call place d t g

-- the name of a macro, which is not replaced where it is hidden (6.10.3.4 paragraph 2; Prosser's algorithm)
abbrev pub named : Option (ℕ × Definition) → Shaded → List Shaded → Head
named None t ts = Stands t ts
named (Some m) t ts =
    if t.hides m.0 then Stands t ts
    else (if m.1.is_function then called m.0 m.1 t ts (gathered m.1 ts) else object_call m.0 m.1 t ts)

-- the name in `( X )`, and what is behind it (6.10.1 paragraph 1)
abbrev pub asked_inside : Shaded → List Shaded → Option (List ℕ × List Shaded)
asked_inside p (x ∷ c ∷ ts) = if is_open (sign_of_token p) && is_identifier_kind x.kind && is_close (sign_of_token c) then Some (x.text, ts) else None
asked_inside p _ = None

-- the name in `X` or `( X )`, and what is behind it (6.10.1 paragraph 1)
abbrev pub asked_of : List Shaded → Option (List ℕ × List Shaded)
asked_of [] = None
asked_of (x ∷ ts) = if is_identifier_kind x.kind then Some (x.text, ts) else asked_inside x ts

-- the name that `defined` asks for where it stands in a condition, and what is behind it (6.10.1 paragraph 1)
unfoldable pub asked : Mode → Shaded → List Shaded → Option (List ℕ × List Shaded)
asked Plain t ts = None
asked Condition t ts = if is_identifier_kind t.kind && bytes_eq t.text (codes "defined") then asked_of ts else None

-- the number token in place of `defined` and its name (6.10.1 paragraph 1; that it is one also where a replacement made
-- `defined`, and what it hides, is own)
abbrev pub answer_token : Shaded → Bool → Shaded
answer_token t is_defined = record t { kind = kinds.Number; text = if is_defined then codes "1" else codes "0" }

-- `defined` with its name, or else an identifier that may name a macro, or else another token (6.10.1 paragraph 1, 6.10.3
-- paragraph 9)
abbrev pub asking : Named → Option (List ℕ × List Shaded) → Shaded → List Shaded → Head
asking ms (Some a) t ts = Stands (answer_token t (is_some (found_at ms a.0))) a.1
asking ms None t ts = if is_identifier_kind t.kind then named (found_at ms t.text) t ts else Stands t ts

-- what the first token of a list is (6.10.3.4 paragraph 1, 6.10.1 paragraph 4)
unfoldable pub head : Named → Mode → Shaded → List Shaded → Head
head ms mode t ts = asking ms (asked mode t ts) t ts

-- the arguments, each with what became of it; one that has no use as written is empty there, and one that is not expanded is
-- empty too (6.10.3.1 paragraph 1)
abbrev pub givens : List (List Shaded) → List (List Shaded) → List Given
givens written outs = map (λ p. record { raw = p.0; expanded = p.1 }) (zip written outs)

-- the tokens that are put in for a call, where this became of its expanded arguments (6.10.3.1 to 6.10.3.4; Prosser's algorithm)
unfoldable pub put : Insertion → List (List Shaded) → List Shaded
put i outs = all_shaded i.hides (puts (givens i.written outs) i.spaced i.parts)
