-- The words after -D and -U of a compiler's command (own, after the options of GCC and Clang).
use Rattle.std.specs.Prelude.{◌≡◌, ℕ, ◌==◌, ◌+◌, List, [], ◌∷◌, ◌++◌, take, drop, position, Option, Some, None, option_and_then}
use Rattle.std.specs.Option.{option_map_or}
use Rattle.std.specs.List.{before_first}
use Rattle.cb_lines.specs.Marks.{marks_of}
use Rattle.cb_tokens.specs.declared.token.Token.{Token}
use Rattle.cb_tokens.specs.Cut.{HasOpenComment}
use Rattle.cb_tokens.specs.Logical.{Line, AreLinesOf}
use Rattle.cb_macro.specs.Definitions.{Definition, defines, undefines}

-- a word up to its first LF (own)
abbrev pub first_line : List ℕ → List ℕ
first_line word = before_first (λ b. b == 10) word

-- a name with the value behind its first =, which a space stands for; without =, the value is 1
-- (GCC's manual, "Options Controlling the Preprocessor", -D)
abbrev pub with_value : List ℕ → List ℕ
with_value text = option_map_or (λ n. take n text ++ 32 ∷ drop (n + 1) text) (position (λ b. b == 61) text) (text ++ 32 ∷ 49 ∷ [])

-- what follows define for a word after -D (GCC's manual, "Options Controlling the Preprocessor", -D)
unfoldable pub definition_text : List ℕ → List ℕ
definition_text word = with_value (first_line word)

-- the logical lines of a text, or nothing where a comment in it has no end (5.1.1.2 phases 2 and 3)
abbrev pub AreLogicalLines : List ℕ → Option (List Line) → Type 0
AreLogicalLines text None = (line : ℕ) × HasOpenComment (marks_of text) line
AreLogicalLines text (Some lines) = AreLinesOf (marks_of text) lines

-- the tokens of the first logical line (own)
abbrev pub first_tokens : List Line → List Token
first_tokens [] = []
first_tokens (l ∷ ls) = l.tokens

-- a word after -D defines this, or nothing: its text's tokens are read as those behind #define
-- (GCC's manual, "Options Controlling the Preprocessor", -D)
abbrev pub WordDefines : List ℕ → Option (List ℕ × Definition) → Type 0
WordDefines word defined =
    (lines : Option (List Line)) × AreLogicalLines (definition_text word) lines × (defined ≡ option_and_then (λ ls. defines (first_tokens ls)) lines)

-- a word after -U undefines this name, or none: its tokens are read as those behind #undef
-- (GCC's manual, "Options Controlling the Preprocessor", -U)
abbrev pub WordUndefines : List ℕ → Option (List ℕ) → Type 0
WordUndefines word name =
    (lines : Option (List Line)) × AreLogicalLines (first_line word) lines × (name ≡ option_and_then (λ ls. undefines (first_tokens ls)) lines)
