-- The forms of pieces, as tests of whole lists of bytes.
use Rattle.std.specs.Prelude.{ℕ, ◌==◌, ◌&&◌, ◌||◌, Bool, true, false, not, nat_le, if◌then◌else◌, List, [], ◌∷◌, length, drop, slice_index, codes}
use Rattle.std.specs.List.{list_all, list_any}
use Rattle.std.specs.Str.{bytes_eq}
use Rattle.std.specs.Char.{is_ascii_alphabetic, is_ascii_digit}
use Rattle.cb_lines.specs.Marks.{is_line_feed}
use Rattle.cb_tokens.specs.declared.token.TokenKind.TheVariants.{Identifier, Number, Char, Str, Punct, Other}
use Rattle.cb_tokens.specs.declared.token.PieceKind.{PieceKind}
use Rattle.cb_tokens.specs.declared.left.QuoteLeft.{QuoteLeft}
use Rattle.cb_tokens.specs.declared.left.QuoteLeft.TheVariants.{Closed, Unclosed, Broken}
use Rattle.cb_tokens.specs.declared.token.PieceKind.TheVariants.{White, Comment, LineEnd, Token}

-- white space that ends no line: space, HT, VT, FF, CR (5.1.1.2 phase 3; CR is own)
unfoldable pub is_white : ℕ → Bool
is_white byte = (byte == 32) || (byte == 9) || (byte == 11) || (byte == 12) || (byte == 13)

-- what an identifier begins with (6.4.2.1; $ and the bytes from 128 on are own)
unfoldable pub is_name_start : ℕ → Bool
is_name_start byte = is_ascii_alphabetic byte || (byte == 95) || (byte == 36) || nat_le 128 byte

-- what an identifier goes on with (6.4.2.1)
unfoldable pub is_name_byte : ℕ → Bool
is_name_byte byte = is_name_start byte || is_ascii_digit byte

-- ' or " (6.4.4.4, 6.4.5)
unfoldable pub is_quote : ℕ → Bool
is_quote byte = (byte == 39) || (byte == 34)

-- an identifier (6.4.2.1)
unfoldable pub is_identifier : List ℕ → Bool
is_identifier [] = false
is_identifier (b ∷ bs) = is_name_start b && list_all is_name_byte bs

-- a number goes on over a byte between its neighbours: a name's byte, a point, a sign after an exponent's letter,
-- or a ' between two bytes of names (6.4.8; ' is own)
unfoldable pub continues_number : ℕ → ℕ → ℕ → Bool
continues_number before byte after =
    is_name_byte byte || (byte == 46)
    || (((byte == 43) || (byte == 45)) && ((before == 101) || (before == 69) || (before == 112) || (before == 80)))
    || ((byte == 39) && is_name_byte before && is_name_byte after)

-- all of a number that stands behind one of its bytes (6.4.8)
unfoldable pub is_number_rest : ℕ → List ℕ → Bool
is_number_rest before [] = true
is_number_rest before (b ∷ bs) = continues_number before b (slice_index bs 0) && is_number_rest b bs

-- a preprocessing number: a digit, or a point and a digit, and then all that continues it (6.4.8)
unfoldable pub is_number : List ℕ → Bool
is_number [] = false
is_number (b ∷ bs) = (is_ascii_digit b || ((b == 46) && is_ascii_digit (slice_index bs 0))) && is_number_rest b bs

-- How bytes behind an opening quote end it: the quote as the last byte closes it, the quote before that or an LF breaks it,
-- and a backslash takes the byte behind it along (6.4.4.4, 6.4.5)
unfoldable pub quote_left : ℕ → List ℕ → QuoteLeft
quote_left quote [] = Unclosed
quote_left quote (b ∷ []) = if b == quote then Closed else (if is_line_feed b then Broken else Unclosed)
quote_left quote (b ∷ c ∷ cs) =
    if (b == quote) || is_line_feed b then Broken
    else (if b == 92 then (if is_line_feed c then Broken else quote_left quote cs) else quote_left quote (c ∷ cs))

-- it is closed (own)
abbrev pub is_closed : QuoteLeft → Bool
is_closed Closed = true
is_closed _ = false

-- it is still open (own)
abbrev pub is_still_open : QuoteLeft → Bool
is_still_open Unclosed = true
is_still_open _ = false

-- behind a quote: its end is the last byte (6.4.4.4, 6.4.5)
unfoldable pub closes : ℕ → List ℕ → Bool
closes quote bs = is_closed (quote_left quote bs)

-- a quote with its end (6.4.4.4, 6.4.5)
unfoldable pub is_quoted : ℕ → List ℕ → Bool
is_quoted quote [] = false
is_quoted quote (b ∷ bs) = (b == quote) && closes quote bs

-- L, u or U (6.4.4.4, 6.4.5)
unfoldable pub is_prefix_letter : ℕ → Bool
is_prefix_letter byte = (byte == 76) || (byte == 117) || (byte == 85)

-- a character constant (6.4.4.4; an empty one is own)
unfoldable pub is_character : List ℕ → Bool
is_character bs = is_quoted 39 bs || (is_prefix_letter (slice_index bs 0) && is_quoted 39 (drop 1 bs))

-- a string literal (6.4.5)
unfoldable pub is_string : List ℕ → Bool
is_string bs =
    is_quoted 34 bs
    || (is_prefix_letter (slice_index bs 0) && is_quoted 34 (drop 1 bs))
    || ((slice_index bs 0 == 117) && (slice_index bs 1 == 56) && is_quoted 34 (drop 2 bs))

-- the punctuators (6.4.6)
unfoldable pub punctuators : List (List ℕ)
punctuators =
    codes "[" ∷ codes "]" ∷ codes "(" ∷ codes ")" ∷ codes "{" ∷ codes "}" ∷ codes "." ∷ codes "->" ∷ codes "++" ∷ codes "--"
    ∷ codes "&" ∷ codes "*" ∷ codes "+" ∷ codes "-" ∷ codes "~" ∷ codes "!" ∷ codes "/" ∷ codes "%" ∷ codes "<<" ∷ codes ">>"
    ∷ codes "<" ∷ codes ">" ∷ codes "<=" ∷ codes ">=" ∷ codes "==" ∷ codes "!=" ∷ codes "^" ∷ codes "|" ∷ codes "&&" ∷ codes "||"
    ∷ codes "?" ∷ codes ":" ∷ codes ";" ∷ codes "..." ∷ codes "=" ∷ codes "*=" ∷ codes "/=" ∷ codes "%=" ∷ codes "+=" ∷ codes "-="
    ∷ codes "<<=" ∷ codes ">>=" ∷ codes "&=" ∷ codes "^=" ∷ codes "|=" ∷ codes "," ∷ codes "#" ∷ codes "##"
    ∷ codes "<:" ∷ codes ":>" ∷ codes "<%" ∷ codes "%>" ∷ codes "%:" ∷ codes "%:%:" ∷ []

-- a punctuator (6.4.6)
unfoldable pub is_punctuator : List ℕ → Bool
is_punctuator bs = list_any (λ p. bytes_eq p bs) punctuators

-- behind a quote: no LF, and no end of the quote (own)
unfoldable pub stays_unclosed : ℕ → List ℕ → Bool
stays_unclosed quote bs = is_still_open (quote_left quote bs)

-- a quote and what follows it on its logical line, where it has no end there (own)
unfoldable pub is_unclosed : List ℕ → Bool
is_unclosed [] = false
is_unclosed (b ∷ bs) = is_quote b && stays_unclosed b bs

-- a single byte that begins nothing else (6.4, "each non-white-space character that cannot be one of the above")
unfoldable pub is_stray : List ℕ → Bool
is_stray [] = false
is_stray (b ∷ []) =
    not (is_white b || is_line_feed b || is_name_start b || is_ascii_digit b || is_quote b || is_punctuator (b ∷ []))
is_stray (b ∷ c ∷ cs) = false

-- one or more white bytes (6.4, paragraph 3)
unfoldable pub is_white_run : List ℕ → Bool
is_white_run [] = false
is_white_run (b ∷ bs) = is_white b && list_all is_white bs

-- the two bytes at the front (own)
unfoldable pub begins_with : ℕ → ℕ → List ℕ → Bool
begins_with first second [] = false
begins_with first second (b ∷ []) = false
begins_with first second (b ∷ c ∷ cs) = (b == first) && (c == second)

-- */ stands somewhere (6.4.9)
unfoldable pub has_comment_end : List ℕ → Bool
has_comment_end [] = false
has_comment_end (b ∷ bs) = begins_with 42 47 (b ∷ bs) || has_comment_end bs

-- the first */ is the end (6.4.9)
unfoldable pub ends_comment : List ℕ → Bool
ends_comment [] = false
ends_comment (b ∷ bs) = if begins_with 42 47 (b ∷ bs) then length bs == 1 else ends_comment bs

-- a comment: from /* to the first */, or from // on, with no LF in it (6.4.9)
unfoldable pub is_comment : List ℕ → Bool
is_comment bs =
    (begins_with 47 42 bs && ends_comment (drop 2 bs))
    || (begins_with 47 47 bs && list_all (λ b. not (is_line_feed b)) (drop 2 bs))

-- a block comment begins and does not end (6.4.9)
unfoldable pub is_open_comment : List ℕ → Bool
is_open_comment bs = begins_with 47 42 bs && not (has_comment_end (drop 2 bs))

-- the bytes are a piece of the kind (6.4)
unfoldable pub fits : PieceKind → List ℕ → Bool
fits White bs = is_white_run bs
fits Comment bs = is_comment bs
fits LineEnd bs = bytes_eq bs (10 ∷ [])
fits (Token Identifier) bs = is_identifier bs
fits (Token Number) bs = is_number bs
fits (Token Char) bs = is_character bs
fits (Token Str) bs = is_string bs
fits (Token Punct) bs = is_punctuator bs
fits (Token Other) bs = is_unclosed bs || is_stray bs
