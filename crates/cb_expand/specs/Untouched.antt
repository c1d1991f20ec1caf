-- Tokens among which nothing is to be replaced (6.10.3 paragraph 9, 6.10.1 paragraph 1).
use Rattle.std.specs.Prelude.{ℕ, ◌&&◌, ◌||◌, Bool, false, not, List, is_some, codes}
use Rattle.std.specs.List.{list_all}
use Rattle.std.specs.Str.{bytes_eq}
use Rattle.cb_tokens.specs.Kinds.{is_identifier_kind}
use Rattle.cb_tokens.specs.declared.token.Token.{Token}
use Rattle.cb_expand.specs.declared.mode.Mode.{Mode}
use Rattle.cb_expand.specs.declared.mode.Mode.TheVariants.{Plain, Condition}
use Rattle.cb_macro.specs.Maps.{found_at}
use Rattle.cb_expand.specs.Heads.{Named}

-- whether an identifier asks for a name (6.10.1 paragraph 1)
abbrev pub asks : Mode → List ℕ → Bool
asks Plain text = false
asks Condition text = bytes_eq text (codes "defined")

-- a token that is no name of a macro, nor `defined` in a condition (6.10.3 paragraph 9, 6.10.1 paragraph 1)
abbrev pub is_untouched : Named → Mode → Token → Bool
is_untouched ms mode t = not (is_identifier_kind t.kind && (is_some (found_at ms t.text) || asks mode t.text))

-- each of the tokens is such a one (own)
abbrev pub are_untouched : Named → Mode → List Token → Bool
are_untouched ms mode ts = list_all (is_untouched ms mode) ts
