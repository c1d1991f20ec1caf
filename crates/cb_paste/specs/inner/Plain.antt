-- What a replacement list without ## puts in.
use Rattle.std.specs.Prelude.{Bool, not, List, [], ◌∷◌}
use Rattle.std.specs.List.{list_all, flat_map}
use Rattle.cb_tokens.specs.declared.token.TokenKind.TheVariants.{Str}
use Rattle.cb_paste.specs.declared.part.Part.{Part}
use Rattle.cb_paste.specs.declared.part.Shape.{Shape}
use Rattle.cb_paste.specs.declared.part.Shape.TheVariants.{Fixed, Parameter, Quoted}
use Rattle.cb_paste.specs.Shades.{Shaded, first_spaced}
use Rattle.cb_paste.specs.Strings.{quoted}
use Rattle.cb_paste.specs.Puts.{Given, given_at, own_token}

-- no part is glued (own)
abbrev pub is_plain : List Part → Bool
is_plain ps = list_all (λ p. not p.glued) ps

-- the tokens of a part that stands beside no ## (6.10.3.1 paragraph 1, 6.10.3.2)
abbrev pub plain_of : List Given → Bool → Shape → List Shaded
plain_of gs spaced (Fixed kind text) = own_token kind spaced text ∷ []
plain_of gs spaced (Parameter i) = first_spaced spaced (given_at gs i).expanded
plain_of gs spaced (Quoted i) = own_token Str spaced (quoted (given_at gs i).raw) ∷ []

-- the tokens of each of the parts (own)
abbrev pub plain_all : List Given → List Part → List Shaded
plain_all gs ps = flat_map (λ p. plain_of gs p.spaced p.shape) ps
