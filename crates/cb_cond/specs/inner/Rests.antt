-- Tokens that are left to read. No public clause names these words.
use Rattle.std.specs.Prelude.{List}
use Rattle.cb_tokens.specs.declared.token.Token.{Token}
use Rattle.cb_cond.specs.declared.rest.Rest.{Rest}

-- the tokens that are left to read
abbrev pub left : Rest → List Token
left rest = rest.tokens.now
