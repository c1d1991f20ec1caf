-- What a pass asks of its macros, and the answers.
use Rattle.std.specs.Prelude.{◌≡◌, ℕ, ◌==◌, ◌⊎◌, Bool, if◌then◌else◌, List, length, Option, Some, None, Result, Ok, Err}
use Rattle.cb_paths.specs.declared.language.Language.{Language}
use Rattle.cb_tokens.specs.declared.token.Token.{Token}
use Rattle.cb_cond.specs.declared.bad_condition.BadCondition.{BadCondition}
use Rattle.cb_cond.specs.Symbols.{symbols}
use Rattle.cb_cond.specs.Faults.{IsAnswer}
use Rattle.cb_macro.specs.Definitions.{Definition, defines, undefines}
use Rattle.cb_macro.specs.Maps.{found, IsChange}
use Rattle.cb_macro.specs.Words.{WordDefines, WordUndefines}
use Rattle.cb_include.specs.declared.op.Op.{Op}
use Rattle.cb_include.specs.declared.op.Op.TheVariants.{Define, Undef}
use Rattle.cb_include.specs.declared.header.Header.{Header}
use Rattle.cb_expand.specs.declared.mode.Mode.{Mode}
use Rattle.cb_expand.specs.declared.mode.Mode.TheVariants as mode
use Rattle.cb_expand.specs.Expansion.{IsReplacement, IsTooDear}
use Rattle.cb_pass.specs.Headers.{header_of}
use Rattle.cb_pass.specs.Macros.{Macros}

-- what is asked: nothing; what a word of -D or -U says, what tokens behind #define or #undef say; whether tokens hold
-- as a condition; which header they name (own)
pub data Question : Type 0 where
  Nothing : Question
  Word : Op → Question
  Defining : List Token → Question
  Undefining : List Token → Question
  Truth : List Token → Question
  Named : List Token → Question

-- the answers: none; a definition, and whether a different one stood; a name to undefine; neither; that a condition
-- holds or not, or its fault; a header or none; that replacement would cost too much (own)
pub data Answer : Type 0 where
  Silent : Answer
  Defines : List ℕ → Definition → Bool → Answer
  Undefines : List ℕ → Answer
  Wordless : Answer
  Holds : Bool → Answer
  Faulty : BadCondition → Answer
  Names : Header → Answer
  Nameless : Answer
  Long : Answer

-- the answer where this is defined, or nothing (6.10.3 paragraph 2)
abbrev pub IsDefinition : Macros → Option (List ℕ × Definition) → Answer → Type 0
IsDefinition macros None answer = answer ≡ Wordless
IsDefinition macros (Some d) answer =
    (different : Bool) × IsChange (found macros d.0) d.1 different × (answer ≡ Defines d.0 d.1 different)

-- the answer where this name is undefined, or none (6.10.3.5 paragraph 2)
abbrev pub undefines_or_not : Option (List ℕ) → Answer
undefines_or_not None = Wordless
undefines_or_not (Some name) = Undefines name

-- what a word says (GCC's manual, "Options Controlling the Preprocessor")
abbrev pub IsWord : Macros → Op → Answer → Type 0
IsWord macros (Define word) answer =
    (d : Option (List ℕ × Definition)) × WordDefines word d × IsDefinition macros d answer
IsWord macros (Undef word) answer =
    (name : Option (List ℕ)) × WordUndefines word name × (answer ≡ undefines_or_not name)

-- what replacement makes of tokens says this, or it would cost too much (6.10.3; the limit is own)
abbrev pub IsReplaced : Macros → Mode → List Token → (List Token → Answer → Type 0) → Answer → Type 0
IsReplaced macros mode tokens Says answer =
    ((out : List Token) × IsReplacement macros mode tokens out × Says out answer)
    ⊎ (IsTooDear macros mode tokens × (answer ≡ Long))

-- the answer by the value of a condition (6.10.1 paragraph 4)
abbrev pub holds_or_not : Result Bool BadCondition → Answer
holds_or_not (Ok holds) = Holds holds
holds_or_not (Err bad) = Faulty bad

-- whether tokens hold as a condition (6.10.1, paragraphs 3 and 4)
abbrev pub IsTruth : Language → List Token → Answer → Type 0
IsTruth language tokens answer =
    (value : Result Bool BadCondition) × IsAnswer (symbols language tokens) value × (answer ≡ holds_or_not value)

-- an empty header names none (6.4.7)
abbrev pub named_or_not : Option Header → Answer
named_or_not None = Nameless
named_or_not (Some h) = if length h.text == 0 then Nameless else Names h

-- which header tokens name: as they are written, else as they are replaced (6.10.2, paragraphs 2 to 4)
abbrev pub IsNamed : Macros → List Token → Option Header → Answer → Type 0
IsNamed macros tokens (Some h) answer = answer ≡ named_or_not (Some h)
IsNamed macros tokens None answer =
    IsReplaced macros mode.Plain tokens (λ out said. said ≡ named_or_not (header_of out)) answer

-- the answer to a question (own)
abbrev pub IsAnswered : Language → Macros → Question → Answer → Type 0
IsAnswered language macros Nothing answer = answer ≡ Silent
IsAnswered language macros (Word op) answer = IsWord macros op answer
IsAnswered language macros (Defining tokens) answer = IsDefinition macros (defines tokens) answer
IsAnswered language macros (Undefining tokens) answer = answer ≡ undefines_or_not (undefines tokens)
IsAnswered language macros (Truth tokens) answer =
    IsReplaced macros mode.Condition tokens (IsTruth language) answer
IsAnswered language macros (Named tokens) answer = IsNamed macros tokens (header_of tokens) answer
