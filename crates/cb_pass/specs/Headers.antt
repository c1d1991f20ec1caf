-- The headers that tokens name (6.10.2).
use Rattle.std.specs.Prelude.{ℕ, ◌-◌, ◌==◌, Bool, true, false, if◌then◌else◌, List, [], ◌∷◌, ◌++◌, length, take, Option, Some, None, codes}
use Rattle.std.specs.Option.{option_map}
use Rattle.std.specs.Str.{bytes_eq}
use Rattle.cb_tokens.specs.declared.token.TokenKind.{TokenKind}
use Rattle.cb_tokens.specs.declared.token.TokenKind.TheVariants.{Str}
use Rattle.cb_tokens.specs.declared.token.Token.{Token}
use Rattle.cb_include.specs.declared.header.Header.{Header}

-- a string (6.4.5)
abbrev pub is_string_kind : TokenKind → Bool
is_string_kind Str = true
is_string_kind _ = false

-- what stands between the quotes of a string without a prefix (6.4.7)
abbrev pub between_quotes : List ℕ → Option (List ℕ)
between_quotes [] = None
between_quotes (b ∷ bs) = if b == 34 then Some (take (length bs - 1) bs) else None

-- one space where white space stands before a token (6.10.2 paragraph 4; one space is own)
abbrev pub space_before : Token → List ℕ
space_before t = if t.spaced then codes " " else []

-- the spellings up to the first >, joined (6.10.2 paragraph 4; the space is own)
abbrev pub up_to_greater : List Token → Option (List ℕ)
up_to_greater [] = None
up_to_greater (t ∷ ts) =
    if bytes_eq t.text (codes ">") then Some (space_before t)
    else option_map (λ text. space_before t ++ t.text ++ text) (up_to_greater ts)

-- a header between quotes (6.4.7)
abbrev pub quote_header : List ℕ → Header
quote_header text = record { angle = false; text = text }

-- a header between < and > (6.4.7)
abbrev pub angle_header : List ℕ → Header
angle_header text = record { angle = true; text = text }

-- the header that tokens begin with, as they are written (6.10.2, paragraphs 2 and 3)
abbrev pub header_of : List Token → Option Header
header_of [] = None
header_of (t ∷ ts) =
    if is_string_kind t.kind then option_map quote_header (between_quotes t.text)
    else (if bytes_eq t.text (codes "<") then option_map angle_header (up_to_greater ts) else None)

-- a header with what it stands between (6.4.7)
abbrev pub spelled_header : Header → List ℕ
spelled_header h = if h.angle then codes "<" ++ h.text ++ codes ">" else codes "\"" ++ h.text ++ codes "\""
