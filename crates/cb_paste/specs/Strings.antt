-- The operator #: the string of an argument.
use Rattle.std.specs.Prelude.{ℕ, ◌==◌, ◌&&◌, ◌||◌, Bool, true, false, not, if◌then◌else◌, List, [], ◌∷◌, ◌++◌}
use Rattle.cb_tokens.specs.declared.token.TokenKind.{TokenKind}
use Rattle.cb_tokens.specs.declared.token.TokenKind.TheVariants.{Char, Str}
use Rattle.cb_paste.specs.Shades.{Shaded}

-- bytes with a backslash before each " and each backslash (6.10.3.2 paragraph 2)
unfoldable pub escaped : List ℕ → List ℕ
escaped [] = []
escaped (b ∷ bs) = if (b == 34) || (b == 92) then 92 ∷ b ∷ escaped bs else b ∷ escaped bs

-- the spelling of a token in a string: only literals are escaped (6.10.3.2 paragraph 2)
abbrev pub spelled : TokenKind → List ℕ → List ℕ
spelled Char text = escaped text
spelled Str text = escaped text
spelled _ text = text

-- the spellings of tokens, one space between two where white space stood, and none at either end (6.10.3.2 paragraph 2)
abbrev pub spelled_all : Bool → List Shaded → List ℕ
spelled_all is_first [] = []
spelled_all is_first (t ∷ ts) =
    (if t.spaced && not is_first then 32 ∷ [] else []) ++ (spelled t.kind t.text ++ spelled_all false ts)

-- the string of an argument (6.10.3.2 paragraph 2)
abbrev pub quoted : List Shaded → List ℕ
quoted ts = 34 ∷ (spelled_all true ts ++ 34 ∷ [])
