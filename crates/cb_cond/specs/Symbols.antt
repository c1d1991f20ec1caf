-- What the tokens of a condition are to its grammar (6.10.1, paragraphs 1 and 4).
use Rattle.std.specs.Prelude.{ℕ, List, map}
use Rattle.cb_paths.specs.declared.language.Language.{Language}
use Rattle.cb_tokens.specs.declared.token.TokenKind.{TokenKind}
use Rattle.cb_tokens.specs.declared.token.TokenKind.TheVariants as kinds
use Rattle.cb_tokens.specs.declared.token.Token.{Token}
use Rattle.cb_cond.specs.declared.symbol.Symbol.{Symbol}
use Rattle.cb_cond.specs.declared.symbol.Symbol.TheVariants.{Stray}
use Rattle.cb_cond.specs.Words.{punctuator, identifier}
use Rattle.cb_cond.specs.Integers.{integer}
use Rattle.cb_cond.specs.Characters.{character}

-- by the form of the token: strings and what has no form are in no form of the grammar (6.6; own)
unfoldable pub symbol_of : Language → TokenKind → List ℕ → Symbol
symbol_of language kinds.Identifier text = identifier language text
symbol_of language kinds.Number text = integer text
symbol_of language kinds.Char text = character text
symbol_of language kinds.Punct text = punctuator text
symbol_of language _ text = Stray

-- what a token is (6.10.1 paragraph 1)
unfoldable pub symbol : Language → Token → Symbol
symbol language token = symbol_of language token.kind token.text

-- what the tokens are, in order (6.10.1 paragraph 4)
unfoldable pub symbols : Language → List Token → List Symbol
symbols language tokens = map (symbol language) tokens
