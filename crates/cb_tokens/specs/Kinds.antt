-- The kinds of tokens, and the kind of bytes as they stand.
use Rattle.std.specs.Prelude.{ℕ, Bool, true, false, List, [], ◌∷◌, find, Option}
use Rattle.cb_tokens.specs.declared.token.TokenKind.{TokenKind}
use Rattle.cb_tokens.specs.declared.token.TokenKind.TheVariants.{Identifier, Number, Char, Str, Punct, Other}
use Rattle.cb_tokens.specs.declared.token.PieceKind.TheVariants.{Token}
use Rattle.cb_tokens.specs.Forms.{fits}

-- an identifier (6.4.2)
abbrev pub is_identifier_kind : TokenKind → Bool
is_identifier_kind Identifier = true
is_identifier_kind _ = false

-- the kinds of tokens (6.4 paragraph 1)
abbrev pub token_kinds : List TokenKind
token_kinds = Identifier ∷ Number ∷ Char ∷ Str ∷ Punct ∷ Other ∷ []

-- the kind of the one token that bytes are as they stand, or none (6.10.3.3 paragraph 3)
unfoldable pub token_kind : List ℕ → Option TokenKind
token_kind bytes = find (λ kind. fits (Token kind) bytes) token_kinds
