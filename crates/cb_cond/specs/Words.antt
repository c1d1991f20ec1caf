-- What punctuators and identifiers are to the grammar of conditions.
use Rattle.std.specs.Prelude.{ℕ, false, if◌then◌else◌, List, [], ◌∷◌, codes}
use Prim.Native.String.{String}
use Rattle.std.specs.Str.{bytes_eq}
use Rattle.cb_paths.specs.declared.language.Language.{Language}
use Rattle.cb_paths.specs.declared.language.Language.TheVariants.{C, Cxx}
use Rattle.cb_cond.specs.declared.symbol.Operator.TheVariants.{Or, And, BitOr, BitXor, BitAnd, Equal, Unequal, Less, Greater, AtMost, AtLeast, ShiftLeft, ShiftRight, Add, Subtract, Multiply, Divide, Remainder}
use Rattle.cb_cond.specs.declared.symbol.Symbol.{Symbol}
use Rattle.cb_cond.specs.declared.symbol.Symbol.TheVariants.{Number, Between, Exclamation, Tilde, OpenParenthesis, CloseParenthesis, Question, Colon, Stray}

-- a text and what it is to the grammar (own)
pub record Row : Type 0 where
  pub text : List ℕ
  pub symbol : Symbol

-- the text is this one (own)
abbrev pub row : String → Symbol → Row
row text symbol = record { text = codes text; symbol = symbol }

-- what a text is by the first row that has it, or else the symbol that is given (own)
unfoldable pub looked_up : List ℕ → List Row → Symbol → Symbol
looked_up text [] s = s
looked_up text (r ∷ rs) s = if bytes_eq text r.text then r.symbol else looked_up text rs s

-- the punctuators of conditions (6.5.3 to 6.5.15)
unfoldable pub punctuators : List Row
punctuators =
    row "(" OpenParenthesis ∷ row ")" CloseParenthesis ∷ row "?" Question ∷ row ":" Colon ∷ row "!" Exclamation ∷ row "~" Tilde
    ∷ row "||" (Between Or) ∷ row "&&" (Between And) ∷ row "|" (Between BitOr) ∷ row "^" (Between BitXor) ∷ row "&" (Between BitAnd)
    ∷ row "==" (Between Equal) ∷ row "!=" (Between Unequal)
    ∷ row "<" (Between Less) ∷ row ">" (Between Greater) ∷ row "<=" (Between AtMost) ∷ row ">=" (Between AtLeast)
    ∷ row "<<" (Between ShiftLeft) ∷ row ">>" (Between ShiftRight) ∷ row "+" (Between Add) ∷ row "-" (Between Subtract)
    ∷ row "*" (Between Multiply) ∷ row "/" (Between Divide) ∷ row "%" (Between Remainder) ∷ []

-- what a punctuator is: any other is in no form of the grammar (6.6; own)
unfoldable pub punctuator : List ℕ → Symbol
punctuator text = looked_up text punctuators Stray

-- the identifiers that are operators or a literal in C++ (ISO/IEC 14882:2011, 2.12 and 16.1, paragraph 4)
unfoldable pub cxx_words : List Row
cxx_words =
    row "and" (Between And) ∷ row "or" (Between Or) ∷ row "not" Exclamation ∷ row "xor" (Between BitXor)
    ∷ row "bitand" (Between BitAnd) ∷ row "bitor" (Between BitOr) ∷ row "compl" Tilde ∷ row "not_eq" (Between Unequal)
    ∷ row "true" (Number 1 false) ∷ []

-- what an identifier of a language is, `defined` left out: 0, but for the words of C++ (6.10.1, paragraph 4)
unfoldable pub word : Language → List ℕ → Symbol
word C text = Number 0 false
word Cxx text = looked_up text cxx_words (Number 0 false)

-- what an identifier is: a `defined` that is left is in no form of the grammar (6.10.1, paragraph 4; own)
unfoldable pub identifier : Language → List ℕ → Symbol
identifier language text = if bytes_eq text (codes "defined") then Stray else word language text
