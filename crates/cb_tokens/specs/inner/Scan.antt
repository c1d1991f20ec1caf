-- What the scanners of single forms answer.
use Rattle.std.specs.Prelude.{◌≡◌, ℕ, ◌+◌, ◌≤◌, ◌==◌, ◌&&◌, ◌||◌, Bool, true, false, not, nat_lt, if◌then◌else◌, List, length, take, slice_index, Option, Some, None}
use Rattle.cb_lines.specs.Marks.{is_line_feed}
use Rattle.cb_tokens.specs.Forms.{is_quote, closes, stays_unclosed, ends_comment, has_comment_end}
use Rattle.cb_tokens.specs.Cut.{NoneLonger}
use Rattle.cb_tokens.specs.declared.token.TokenKind.{TokenKind}
use Rattle.cb_tokens.specs.declared.token.TokenKind.TheVariants.{Char, Str}
use Rattle.cb_tokens.specs.declared.quote.QuoteEnd.{QuoteEnd}
use Rattle.cb_tokens.specs.declared.quote.QuoteEnd.TheVariants.{Closed, Unclosed}

-- the longest prefix of a form, where there is one: its length (own)
pub record IsLongest (form : List ℕ → Bool) (bytes : List ℕ) (n : ℕ) : Type 0 where
  pub within : n ≤ length bytes
  pub holds : form (take n bytes) ≡ true
  pub longest : NoneLonger form bytes n

-- no prefix has the form (own)
abbrev pub HasNone : (List ℕ → Bool) → List ℕ → Type 0
HasNone form bytes = (m : ℕ) → m ≤ length bytes → form (take m bytes) ≡ false

-- where the quote ends that opened before the bytes, or else how far it goes on (own)
abbrev pub EndsQuote : ℕ → List ℕ → QuoteEnd → Type 0
EndsQuote quote bytes (Closed n) =
    IsLongest (closes quote) bytes n × NoneLonger (stays_unclosed quote) bytes n
EndsQuote quote bytes (Unclosed n) = IsLongest (stays_unclosed quote) bytes n × HasNone (closes quote) bytes

-- the bytes of an escape at an index that ends no line, or 1 where there is none (own)
abbrev pub quote_step : List ℕ → ℕ → ℕ
quote_step bytes i =
    if (slice_index bytes i == 92) && nat_lt (i + 1) (length bytes) && not (is_line_feed (slice_index bytes (i + 1)))
    then 2
    else 1

-- where the block comment ends that opened before the bytes, if it does (own)
abbrev pub EndsComment : List ℕ → Option ℕ → Type 0
EndsComment bytes None = has_comment_end bytes ≡ false
EndsComment bytes (Some n) = IsLongest ends_comment bytes n × (has_comment_end bytes ≡ true)

-- the kind of a token between such quotes (6.4.4.4, 6.4.5)
abbrev pub quoted_kind : ℕ → TokenKind
quoted_kind quote = if quote == 39 then Char else Str

-- the bytes of a prefix that stand directly before a quote at the front (own)
abbrev pub prefix_before_quote : List ℕ → ℕ
prefix_before_quote bytes =
    if is_quote (slice_index bytes 1) then 1
    else (if (slice_index bytes 0 == 117) && (slice_index bytes 1 == 56) && (slice_index bytes 2 == 34) then 2 else 0)

-- the second byte of some punctuator (own)
unfoldable pub is_second : ℕ → Bool
is_second byte =
    (byte == 35) || (byte == 37) || (byte == 38) || (byte == 43) || (byte == 45) || (byte == 46) || (byte == 58)
    || (byte == 60) || (byte == 61) || (byte == 62) || (byte == 124)

-- within a quote, and neither its end, nor an escape, nor a line end (own)
unfoldable pub is_inner : ℕ → ℕ → Bool
is_inner quote byte = not ((byte == quote) || (byte == 92) || is_line_feed byte)

-- the end of a comment begins with these two bytes (6.4.9)
unfoldable pub ends_with : ℕ → ℕ → Bool
ends_with first second = (first == 42) && (second == 47)
