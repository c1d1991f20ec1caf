-- The operator ##: what stands at its sides is joined.
use Rattle.std.specs.Prelude.{◌&&◌, Bool, false, List, [], ◌∷◌, ◌++◌, Option, Some, None}
use Rattle.std.specs.List.{flat_map}
use Rattle.cb_tokens.specs.declared.token.TokenKind.{TokenKind}
use Rattle.cb_tokens.specs.Kinds.{token_kind}
use Rattle.cb_paste.specs.Shades.{Shaded, spaced_as}

-- what stands at a side of ##: a token, or a placemarker with its parameter's white space (6.10.3.3 paragraph 2)
pub data Put : Type 0 where
  Mark : Bool → Put
  Real : Shaded → Put

-- two tokens with the kind of the one that they make, which has the common part of their hide sets; both where they
-- make none, the right one without white space before it (6.10.3.3 paragraph 3; both is own; Prosser's algorithm, "glue")
abbrev pub joined_as : Shaded → Shaded → Option TokenKind → List Put
joined_as t u (Some kind) =
    Real (record {
      kind = kind;
      spaced = t.spaced;
      text = t.text ++ u.text;
      hides = λ place. t.hides place && u.hides place;
    }) ∷ []
joined_as t u None = Real t ∷ Real (spaced_as false u) ∷ []

-- a placemarker and a token make that token, and two of them make one (6.10.3.3 paragraph 3)
abbrev pub glue : Put → Put → List Put
glue (Mark s) (Mark r) = Mark s ∷ []
glue (Mark s) (Real u) = Real (spaced_as s u) ∷ []
glue (Real t) (Mark r) = Real t ∷ []
glue (Real t) (Real u) = joined_as t u (token_kind (t.text ++ u.text))

-- the first of the new ones is joined to the last of those that stand (6.10.3.3 paragraph 3)
abbrev pub onto_last : List Put → List Put → List Put
onto_last [] ms = ms
onto_last (l ∷ []) [] = l ∷ []
onto_last (l ∷ []) (m ∷ ms) = glue l m ++ ms
onto_last (l ∷ k ∷ ls) ms = l ∷ onto_last (k ∷ ls) ms

-- no token of a placemarker (6.10.3.3 paragraph 3)
abbrev pub real_of : Put → List Shaded
real_of (Mark s) = []
real_of (Real t) = t ∷ []

-- the tokens: placemarkers go away (6.10.3.3 paragraph 3)
abbrev pub reals : List Put → List Shaded
reals ms = flat_map real_of ms
