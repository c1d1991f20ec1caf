-- The parts of a replacement list: what # and ## make of its tokens (6.10.3.2, 6.10.3.3).
use Rattle.std.specs.Prelude.{ℕ, ◌==◌, ◌&&◌, ◌||◌, Bool, true, false, not, if◌then◌else◌, List, [], ◌∷◌, Option, Some, None}
use Rattle.cb_tokens.specs.declared.token.Token.{Token}
use Rattle.cb_paste.specs.declared.part.Part.{Part}
use Rattle.cb_paste.specs.declared.part.Shape.{Shape}
use Rattle.cb_paste.specs.declared.part.Shape.TheVariants.{Fixed, Parameter, Quoted}
use Rattle.cb_paste.specs.Puts.{next_glued}
use Rattle.cb_macro.specs.declared.uses.Use.{Use}
use Rattle.cb_macro.specs.declared.item.Item.{Item}
use Rattle.cb_macro.specs.declared.item.Before.{Before}
use Rattle.cb_macro.specs.declared.item.Before.TheVariants.{Nothing, Operand, Paste}
use Rattle.cb_macro.specs.Signs.{is_hash, is_paste}
use Rattle.cb_macro.specs.Definitions.{Definition, all_parameters, parameter_of}

-- a parameter, or else the token itself (6.10.3.1 paragraph 1)
abbrev pub token_shape : Token → Option ℕ → Shape
token_shape t (Some i) = Parameter i
token_shape t None = Fixed t.kind t.text

-- a token as an item (6.10.3.1 paragraph 1)
abbrev pub token_item : List (List ℕ) → Token → Item
token_item names t = record { shape = token_shape t (parameter_of names t); spaced = t.spaced; pastes = is_paste t }

-- # with its parameter as an item (6.10.3.2 paragraph 2)
abbrev pub quoted_item : Token → ℕ → Item
quoted_item hash i = record { shape = Quoted i; spaced = hash.spaced; pastes = false }

-- the parameter that # turns into a string, where these two tokens stand in a function-like macro (6.10.3.2 paragraph 1)
abbrev pub quoted_at : Bool → List (List ℕ) → Token → Token → Option ℕ
quoted_at is_function names t u = if is_function && is_hash t then parameter_of names u else None

-- the items of a replacement list: in a function-like macro each # takes the parameter behind it (6.10.3.2 paragraph 2)
unfoldable pub items : Bool → List (List ℕ) → List Token → List Item
items is_function names [] = []
items is_function names (t ∷ []) = token_item names t ∷ []
items is_function names (t ∷ u ∷ ts) = elim (quoted_at is_function names t u) [
  | Some i ↦ quoted_item t i ∷ items is_function names ts
  | None ↦ token_item names t ∷ items is_function names (u ∷ ts)
]

-- the item as a part, which ## joins to the part before it or not (6.10.3.3 paragraph 3)
abbrev pub part_of : Bool → Item → Part
part_of glued i = record { glued = glued; spaced = i.spaced; shape = i.shape }

-- from the left, each ## with an operand before it joins the item behind it to that operand; so of two ## in a row the
-- second is the right operand of the first (6.10.3.3 paragraph 3; from the left is own)
unfoldable pub glues : Before → List Item → List Part
glues before [] = []
glues Nothing (i ∷ more) = part_of false i ∷ glues Operand more
glues Operand (i ∷ more) = if i.pastes then glues Paste more else part_of false i ∷ glues Operand more
glues Paste (i ∷ more) = part_of true i ∷ glues Operand more

-- the parts of a definition's replacement list (6.10.3.2 paragraph 2, 6.10.3.3 paragraph 3)
unfoldable pub parts : Definition → List Part
parts d = glues Nothing (items d.is_function (all_parameters d) d.replacement)

-- the part is the parameter in this place, outside # (6.10.3.1 paragraph 1)
abbrev pub is_parameter : ℕ → Shape → Bool
is_parameter i (Parameter k) = i == k
is_parameter i _ = false

-- the part is # with the parameter in this place (6.10.3.2 paragraph 2)
abbrev pub is_quoted : ℕ → Shape → Bool
is_quoted i (Quoted k) = i == k
is_quoted i _ = false

-- the parameter in this place stands somewhere outside # and ##, so that its argument is replaced first
-- (6.10.3.1 paragraph 1)
unfoldable pub is_shown : ℕ → List Part → Bool
is_shown i [] = false
is_shown i (p ∷ ps) = (is_parameter i p.shape && not (p.glued || next_glued ps)) || is_shown i ps

-- the parameter in this place stands somewhere beside # or ##, so that its argument is wanted as it is written
-- (6.10.3.1 paragraph 1)
unfoldable pub is_raw : ℕ → List Part → Bool
is_raw i [] = false
is_raw i (p ∷ ps) = is_quoted i p.shape || (is_parameter i p.shape && (p.glued || next_glued ps)) || is_raw i ps

-- how the parameter in this place is used (6.10.3.1 paragraph 1)
unfoldable pub use_of : ℕ → List Part → Use
use_of i ps = record { is_shown = is_shown i ps; is_raw = is_raw i ps }
