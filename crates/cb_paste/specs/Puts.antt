-- What a replacement list puts in.
use Rattle.std.specs.Prelude.{ℕ, ◌||◌, Bool, true, false, List, [], ◌∷◌, ◌++◌, map}
use Rattle.std.specs.List.{slice_index_or}
use Rattle.cb_tokens.specs.declared.token.TokenKind.{TokenKind}
use Rattle.cb_tokens.specs.declared.token.TokenKind.TheVariants.{Str}
use Rattle.cb_paste.specs.declared.argument.Argument.{Argument}
use Rattle.cb_paste.specs.declared.part.Part.{Part}
use Rattle.cb_paste.specs.declared.part.Shape.{Shape}
use Rattle.cb_paste.specs.declared.part.Shape.TheVariants.{Fixed, Parameter, Quoted}
use Rattle.cb_paste.specs.Shades.{Shaded, seen, AreIn, spaced_as, first_spaced}
use Rattle.cb_paste.specs.Strings.{quoted}
use Rattle.cb_paste.specs.Joins.{Put, Mark, Real, onto_last, reals}

-- an argument as written, and as it is after its own expansion (6.10.3.1 paragraph 1)
pub record Given : Type 0 where
  pub raw : List Shaded
  pub expanded : List Shaded

-- an argument whose tokens have their hide sets in an arena (own)
abbrev pub seen_argument : List (List ℕ) → Argument → Given
seen_argument sets a = record { raw = map (seen sets) a.raw.items; expanded = map (seen sets) a.expanded.items }

-- the arguments so (own)
abbrev pub seen_arguments : List (List ℕ) → List Argument → List Given
seen_arguments sets arguments = map (seen_argument sets) arguments

-- the hide sets of the arguments' tokens stand in an arena of so many (own)
abbrev pub AreArgumentsIn : ℕ → List Argument → Type 0
AreArgumentsIn count [] = Unit {0}
AreArgumentsIn count (a ∷ rest) = AreIn count a.raw.items × AreIn count a.expanded.items × AreArgumentsIn count rest

-- the argument of a parameter, empty where there is none (own)
abbrev pub given_at : List Given → ℕ → Given
given_at gs i = slice_index_or gs i (record { raw = []; expanded = [] })

-- a token that hides nothing yet (Prosser's algorithm)
abbrev pub own_token : TokenKind → Bool → List ℕ → Shaded
own_token kind spaced text = record { kind = kind; spaced = spaced; text = text; hides = λ place. false }

-- an argument as written, with its parameter's white space; a placemarker where it is empty (6.10.3.3 paragraph 2)
abbrev pub as_operand : Bool → List Shaded → List Put
as_operand spaced [] = Mark spaced ∷ []
as_operand spaced (t ∷ ts) = map Real (spaced_as spaced t ∷ ts)

-- what a parameter puts in: the argument as written beside ##, and else expanded (6.10.3.1 paragraph 1)
abbrev pub parameter_puts : Bool → Bool → Given → List Put
parameter_puts true spaced g = as_operand spaced g.raw
parameter_puts false spaced g = map Real (first_spaced spaced g.expanded)

-- what a part puts in, beside ## or not (6.10.3.1 to 6.10.3.3)
abbrev pub shape_puts : List Given → Bool → Bool → Shape → List Put
shape_puts gs beside spaced (Fixed kind text) = Real (own_token kind spaced text) ∷ []
shape_puts gs beside spaced (Parameter i) = parameter_puts beside spaced (given_at gs i)
shape_puts gs beside spaced (Quoted i) = Real (own_token Str spaced (quoted (given_at gs i).raw)) ∷ []

-- the first part is glued to what stands before it (6.10.3.3 paragraph 2)
abbrev pub next_glued : List Part → Bool
next_glued [] = false
next_glued (p ∷ ps) = p.glued

-- new ones behind those that stand, glued or not (6.10.3.3 paragraph 3)
abbrev pub put_one : List Put → Bool → List Put → List Put
put_one done true ms = onto_last done ms
put_one done false ms = done ++ ms

-- the parts put in from the left, behind what stands (6.10.3.3 paragraph 3; from the left is own)
abbrev pub put_from : List Given → List Put → List Part → List Put
put_from gs done [] = done
put_from gs done (p ∷ ps) =
    put_from gs (put_one done p.glued (shape_puts gs (p.glued || next_glued ps) p.spaced p.shape)) ps

-- the tokens that a replacement list puts in for a name with such white space before it (6.10.3.1 to 6.10.3.3; white
-- space is own)
unfoldable pub puts : List Given → Bool → List Part → List Shaded
puts gs spaced parts = first_spaced spaced (reals (put_from gs [] parts))
