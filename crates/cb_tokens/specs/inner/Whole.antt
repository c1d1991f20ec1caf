-- What the recognisers of whole tokens answer.
use Rattle.std.specs.Prelude.{◌≡◌, ℕ, true, false, List, Option, Some, None}
use Rattle.cb_lines.specs.declared.mark.Mark.{Mark}
use Rattle.cb_tokens.specs.Forms.{fits}
use Rattle.cb_tokens.specs.declared.token.TokenKind.{TokenKind}
use Rattle.cb_tokens.specs.declared.token.PieceKind.TheVariants.{Token}
use Rattle.cb_tokens.specs.declared.left.QuoteLeft.{QuoteLeft}
use Rattle.cb_tokens.specs.declared.left.QuoteLeft.TheVariants.{Closed}

-- the kind of the token that the bytes are, or none (own)
abbrev pub IsDecided : List ℕ → Option TokenKind → Type 0
IsDecided bytes None = (kind : TokenKind) → fits (Token kind) bytes ≡ false
IsDecided bytes (Some kind) = fits (Token kind) bytes ≡ true

-- the byte of a mark; 0 where there is none (own)
abbrev pub byte_of : Option Mark → ℕ
byte_of None = 0
byte_of (Some mark) = mark.byte

-- the kind where the quote is closed (own)
abbrev pub closed_as : QuoteLeft → TokenKind → Option TokenKind
closed_as Closed kind = Some kind
closed_as _ kind = None
