-- The words behind the command `specialise`.
use Rattle.std.specs.Prelude.{◌≡◌, ℕ, ◌==◌, ◌&&◌, if◌then◌else◌, List, [], ◌∷◌, All, codes, Option, Some, None, Result, Ok, Err}
use Rattle.std.specs.Str.{bytes_eq}
use Rattle.cb_macro.specs.Definitions.{Definition}
use Rattle.cb_macro.specs.Words.{WordDefines}
use Rattle.cb_words.specs.declared.fault.BadWords.{BadWords}
use Rattle.cb_words.specs.declared.fault.BadWords.TheVariants.{UnknownOption, BadDefinition}

-- what stands behind -D in a word that begins with it (own)
abbrev pub joined_word : List ℕ → Option (List ℕ)
joined_word [] = None
joined_word (a ∷ []) = None
joined_word (a ∷ b ∷ word) = if (a == 45) && (b == 68) then Some word else None

-- a word before others, where all of them are there (own)
abbrev pub before : Option (List ℕ) → Option (List (List ℕ)) → Option (List (List ℕ))
before None words = None
before (Some word) None = None
before (Some word) (Some words) = Some (word ∷ words)

-- the words of -D, each in a word with it or in the next one, or nothing where a word is no part of such; the word of a
-- last -D alone is empty (own)
abbrev pub words_in : List (List ℕ) → Option (List (List ℕ))
words_in [] = Some []
words_in (first ∷ []) = before (joined_word first) (Some [])
words_in (first ∷ next ∷ more) =
    if bytes_eq first (codes "-D") then before (Some next) (words_in more)
    else before (joined_word first) (words_in (next ∷ more))

-- the words of -D behind the command `specialise`, or nothing where the words of a command line are not such (own)
abbrev pub words_asked : List (List ℕ) → Option (List (List ℕ))
words_asked [] = None
words_asked (first ∷ more) = if bytes_eq first (codes "specialise") then words_in more else None

-- the word defines a macro (GCC's manual, "Options Controlling the Preprocessor", -D)
abbrev pub IsDefinition : List ℕ → Type 0
IsDefinition word = (d : List ℕ × Definition) × WordDefines word (Some d)

-- what the words behind `specialise` say: the words of each -D, all of them definitions; or that a word is no part of such;
-- or that one of these is no definition (own)
pub data Defines (words : List (List ℕ)) : Result (List (List ℕ)) BadWords → Type 0 where
  stray : words_in words ≡ None → Defines words (Err UnknownOption)
  unsound : (found : List (List ℕ)) → words_in words ≡ Some found → (All IsDefinition found → ⊥) → Defines words (Err BadDefinition)
  sound : (found : List (List ℕ)) → words_in words ≡ Some found → All IsDefinition found → Defines words (Ok found)
