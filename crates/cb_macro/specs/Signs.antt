-- The tokens that mean something in a definition.
use Rattle.std.specs.Prelude.{ℕ, ◌&&◌, ◌||◌, Bool, true, false, not, List, codes}
use Rattle.std.specs.Str.{bytes_eq}
use Rattle.cb_tokens.specs.Kinds.{is_identifier_kind}
use Rattle.cb_tokens.specs.declared.token.TokenKind.{TokenKind}
use Rattle.cb_tokens.specs.declared.token.TokenKind.TheVariants.{Punct}
use Rattle.cb_tokens.specs.declared.token.Token.{Token}

-- a punctuator (6.4.6)
abbrev pub is_punctuator_kind : TokenKind → Bool
is_punctuator_kind Punct = true
is_punctuator_kind _ = false

-- the punctuator of these bytes (6.4.6)
unfoldable pub is_sign : List ℕ → Token → Bool
is_sign bytes t = is_punctuator_kind t.kind && bytes_eq t.text bytes

-- # or %: (6.4.6 paragraph 3)
unfoldable pub is_hash : Token → Bool
is_hash t = is_sign (codes "#") t || is_sign (codes "%:") t

-- ## or %:%: (6.4.6 paragraph 3)
unfoldable pub is_paste : Token → Bool
is_paste t = is_sign (codes "##") t || is_sign (codes "%:%:") t

-- the name of the arguments that ... stands for (6.10.3 paragraph 5)
abbrev pub rest_name : List ℕ
rest_name = codes "__VA_ARGS__"

-- the identifier of these bytes (6.4.2.1)
unfoldable pub is_named : List ℕ → Token → Bool
is_named name t = is_identifier_kind t.kind && bytes_eq t.text name

-- an identifier that may name a macro: neither defined nor __VA_ARGS__ (6.10.8 paragraph 4, 6.10.3 paragraph 5)
unfoldable pub is_macro_name : Token → Bool
is_macro_name t = is_identifier_kind t.kind && not (bytes_eq t.text (codes "defined") || bytes_eq t.text rest_name)
