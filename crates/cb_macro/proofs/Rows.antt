-- Rows of definitions, computed: what they define, and which are none.
use Rattle.std.proofs.Common.{◌≡◌, ℕ, Bool, true, false, List, [], ◌∷◌, map, Some, refl, codes}
use Rattle.std.specs.Prelude.{is_none}
use Rattle.std.specs.List.{list_all}
use Prim.Native.String.{String}
use Rattle.cb_tokens.specs.declared.token.TokenKind.TheVariants.{Identifier, Number, Punct}
use Rattle.cb_tokens.specs.declared.token.Token.{Token}
use Rattle.cb_paste.specs.declared.part.Part.{Part}
use Rattle.cb_paste.specs.declared.part.Shape.{Shape}
use Rattle.cb_paste.specs.declared.part.Shape.TheVariants.{Fixed, Parameter, Quoted}
use Rattle.cb_macro.specs.Signs.{is_sign, is_hash, is_paste, is_named, is_macro_name}
use Rattle.cb_macro.specs.Definitions.{Definition, defines, body_of, object_body, function_body, is_called, function_like, checked, without_front_space, may_stand, begins_with_paste, ends_with_paste, hashes_name_parameters, begins_with_parameter, parameter_of, all_parameters, are_distinct, parameters_of, some_parameters}
use Rattle.cb_macro.specs.Parts.{items, glues, parts, is_shown, is_raw}

-- an identifier, a number and a punctuator, and a token behind white space
n : String → Token
n text = record { kind = Identifier; spaced = false; text = codes text }

d : String → Token
d text = record { kind = Number; spaced = false; text = codes text }

p : String → Token
p text = record { kind = Punct; spaced = false; text = codes text }

s : Token → Token
s t = record t { spaced = true }

object : List Token → Definition
object ts = record { is_function = false; parameters = []; is_variadic = false; replacement = ts }

function : List (List ℕ) → Bool → List Token → Definition
function names variadic ts = record { is_function = true; parameters = names; is_variadic = variadic; replacement = ts }

-- the tokens behind define, and what they define
accepted : map defines (
    -- E
    (n "E" ∷ [])
    -- O (a) -a
    ∷ (n "O" ∷ s (p "(") ∷ n "a" ∷ p ")" ∷ s (p "-") ∷ n "a" ∷ [])
    -- O+ a
    ∷ (n "O" ∷ p "+" ∷ s (n "a") ∷ [])
    -- O #a defined
    ∷ (n "O" ∷ s (p "#") ∷ n "a" ∷ s (n "defined") ∷ [])
    -- f() x
    ∷ (n "f" ∷ p "(" ∷ p ")" ∷ s (n "x") ∷ [])
    -- f( a ) a*g
    ∷ (n "f" ∷ p "(" ∷ s (n "a") ∷ s (p ")") ∷ s (n "a") ∷ p "*" ∷ n "g" ∷ [])
    -- f(defined, b)
    ∷ (n "f" ∷ p "(" ∷ n "defined" ∷ p "," ∷ s (n "b") ∷ p ")" ∷ [])
    -- W(a,...) #__VA_ARGS__
    ∷ (n "W" ∷ p "(" ∷ n "a" ∷ p "," ∷ p "..." ∷ p ")" ∷ s (p "#") ∷ n "__VA_ARGS__" ∷ [])
    -- W(...) %:__VA_ARGS__
    ∷ (n "W" ∷ p "(" ∷ p "..." ∷ p ")" ∷ p "%:" ∷ n "__VA_ARGS__" ∷ [])
    ∷ [])
    ≡ Some (codes "E", object [])
    ∷ Some (codes "O", object (p "(" ∷ n "a" ∷ p ")" ∷ s (p "-") ∷ n "a" ∷ []))
    ∷ Some (codes "O", object (p "+" ∷ s (n "a") ∷ []))
    ∷ Some (codes "O", object (p "#" ∷ n "a" ∷ s (n "defined") ∷ []))
    ∷ Some (codes "f", function [] false (n "x" ∷ []))
    ∷ Some (codes "f", function (codes "a" ∷ []) false (n "a" ∷ p "*" ∷ n "g" ∷ []))
    ∷ Some (codes "f", function (codes "defined" ∷ codes "b" ∷ []) false [])
    ∷ Some (codes "W", function (codes "a" ∷ []) true (p "#" ∷ n "__VA_ARGS__" ∷ []))
    ∷ Some (codes "W", function [] true (p "%:" ∷ n "__VA_ARGS__" ∷ []))
    ∷ []
unfolding n d p s object function defines body_of object_body function_body is_called function_like checked without_front_space may_stand begins_with_paste ends_with_paste hashes_name_parameters begins_with_parameter parameter_of all_parameters are_distinct parameters_of some_parameters is_sign is_hash is_paste is_named is_macro_name
accepted = refl

-- no definitions
refused : list_all (λ ts. is_none (defines ts)) (
    -- nothing, 1, +, defined, __VA_ARGS__
    []
    ∷ (d "1" ∷ []) ∷ (p "+" ∷ []) ∷ (n "defined" ∷ []) ∷ (n "__VA_ARGS__" ∷ s (n "x") ∷ [])
    -- f(, f(a, f(a b), f(a,), f(,a), f(1), f(a;b)
    ∷ (n "f" ∷ p "(" ∷ [])
    ∷ (n "f" ∷ p "(" ∷ n "a" ∷ [])
    ∷ (n "f" ∷ p "(" ∷ n "a" ∷ s (n "b") ∷ p ")" ∷ [])
    ∷ (n "f" ∷ p "(" ∷ n "a" ∷ p "," ∷ p ")" ∷ [])
    ∷ (n "f" ∷ p "(" ∷ p "," ∷ n "a" ∷ p ")" ∷ [])
    ∷ (n "f" ∷ p "(" ∷ d "1" ∷ p ")" ∷ [])
    ∷ (n "f" ∷ p "(" ∷ n "a" ∷ p ";" ∷ n "b" ∷ p ")" ∷ [])
    -- f(..., a), f(a...), f(a, a), f(__VA_ARGS__)
    ∷ (n "f" ∷ p "(" ∷ p "..." ∷ p "," ∷ n "a" ∷ p ")" ∷ [])
    ∷ (n "f" ∷ p "(" ∷ n "a" ∷ p "..." ∷ p ")" ∷ [])
    ∷ (n "f" ∷ p "(" ∷ n "a" ∷ p "," ∷ n "b" ∷ p "," ∷ n "a" ∷ p ")" ∷ [])
    ∷ (n "f" ∷ p "(" ∷ n "__VA_ARGS__" ∷ p ")" ∷ [])
    -- O ## a, O a %:%:, f(a) ##a, f(a) #b, f(a) a#, f(a) # #a
    ∷ (n "O" ∷ s (p "##") ∷ n "a" ∷ [])
    ∷ (n "O" ∷ s (n "a") ∷ s (p "%:%:") ∷ [])
    ∷ (n "f" ∷ p "(" ∷ n "a" ∷ p ")" ∷ p "##" ∷ n "a" ∷ [])
    ∷ (n "f" ∷ p "(" ∷ n "a" ∷ p ")" ∷ p "#" ∷ n "b" ∷ [])
    ∷ (n "f" ∷ p "(" ∷ n "a" ∷ p ")" ∷ n "a" ∷ p "#" ∷ [])
    ∷ (n "f" ∷ p "(" ∷ n "a" ∷ p ")" ∷ p "#" ∷ p "%:" ∷ n "a" ∷ [])
    -- O __VA_ARGS__, f(a) a+__VA_ARGS__, f(a) #__VA_ARGS__
    ∷ (n "O" ∷ s (n "__VA_ARGS__") ∷ [])
    ∷ (n "f" ∷ p "(" ∷ n "a" ∷ p ")" ∷ n "a" ∷ p "+" ∷ n "__VA_ARGS__" ∷ [])
    ∷ (n "f" ∷ p "(" ∷ n "a" ∷ p ")" ∷ p "#" ∷ n "__VA_ARGS__" ∷ [])
    ∷ [])
    ≡ true
unfolding n d p s object function defines body_of object_body function_body is_called function_like checked without_front_space may_stand begins_with_paste ends_with_paste hashes_name_parameters begins_with_parameter parameter_of all_parameters are_distinct parameters_of some_parameters is_sign is_hash is_paste is_named is_macro_name
refused = refl

-- a part that is not glued, and one that is
plain : Bool → Shape → Part
plain spaced shape = record { glued = false; spaced = spaced; shape = shape }

glued : Bool → Shape → Part
glued spaced shape = record { glued = true; spaced = spaced; shape = shape }

name : String → Shape
name text = Fixed Identifier (codes text)

punct : String → Shape
punct text = Fixed Punct (codes text)

-- definitions, and their parts
cut : map parts (
    -- x ## y z
    object (n "x" ∷ s (p "##") ∷ s (n "y") ∷ s (n "z") ∷ [])
    -- x ## ## y
    ∷ object (n "x" ∷ s (p "##") ∷ s (p "##") ∷ s (n "y") ∷ [])
    -- # ## #x, object-like
    ∷ object (p "#" ∷ s (p "##") ∷ s (p "#") ∷ n "x" ∷ [])
    -- (a, b) # a %:%: %: b
    ∷ function (codes "a" ∷ codes "b" ∷ []) false (p "#" ∷ s (n "a") ∷ s (p "%:%:") ∷ s (p "%:") ∷ s (n "b") ∷ [])
    -- (a, ...) a,##__VA_ARGS__ x
    ∷ function (codes "a" ∷ []) true (n "a" ∷ p "," ∷ p "##" ∷ n "__VA_ARGS__" ∷ s (n "x") ∷ [])
    ∷ [])
    ≡ (plain false (name "x") ∷ glued true (name "y") ∷ plain true (name "z") ∷ [])
    ∷ (plain false (name "x") ∷ glued true (punct "##") ∷ plain true (name "y") ∷ [])
    ∷ (plain false (punct "#") ∷ glued true (punct "#") ∷ plain false (name "x") ∷ [])
    ∷ (plain false (Quoted 0) ∷ glued true (Quoted 1) ∷ [])
    ∷ (plain false (Parameter 0) ∷ plain false (punct ",") ∷ glued false (Parameter 1) ∷ plain true (name "x") ∷ [])
    ∷ []
unfolding n d p s object function plain glued name punct parts items glues parameter_of all_parameters is_sign is_hash is_paste
cut = refl

-- the parts of (a, b, c) #a b##x c a
some : List Part
some = plain false (Quoted 0) ∷ plain true (Parameter 1) ∷ glued false (name "x") ∷ plain true (Parameter 2) ∷ plain true (Parameter 0) ∷ []

-- a and c stand outside # and ##
shown : map (λ i. is_shown i some) (0 ∷ 1 ∷ 2 ∷ []) ≡ true ∷ false ∷ true ∷ []
unfolding some plain glued name is_shown
shown = refl

-- a and b stand beside # or ##
raw : map (λ i. is_raw i some) (0 ∷ 1 ∷ 2 ∷ []) ≡ true ∷ true ∷ false ∷ []
unfolding some plain glued name is_raw
raw = refl
