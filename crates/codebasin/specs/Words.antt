-- The arguments of the program.
use Rattle.std.specs.Prelude.{◌≡◌, ℕ, ◌==◌, ◌&&◌, if◌then◌else◌, List, [], ◌∷◌, All, codes, Option, Some, None, option_map}
use Rattle.std.specs.Str.{bytes_eq}
use Rattle.cb_macro.specs.Definitions.{Definition}
use Rattle.cb_macro.specs.Words.{WordDefines}

-- what stands behind -D in an argument that begins with it (own)
abbrev pub joined_word : List ℕ → Option (List ℕ)
joined_word [] = None
joined_word (a ∷ []) = None
joined_word (a ∷ b ∷ word) = if (a == 45) && (b == 68) then Some word else None

-- a word before others, where all of them are there (own)
abbrev pub before : Option (List ℕ) → Option (List (List ℕ)) → Option (List (List ℕ))
before None words = None
before (Some word) None = None
before (Some word) (Some words) = Some (word ∷ words)

-- the words of -D, each in an argument with it or in the next one, or nothing where an argument is no part of such; the
-- word of a last -D alone is empty (own)
abbrev pub words_in : List (List ℕ) → Option (List (List ℕ))
words_in [] = Some []
words_in (first ∷ []) = before (joined_word first) (Some [])
words_in (first ∷ next ∷ more) =
    if bytes_eq first (codes "-D") then before (Some next) (words_in more)
    else before (joined_word first) (words_in (next ∷ more))

-- the words of -D behind the command `specialise`, or nothing where the arguments are not such (own)
abbrev pub words_asked : List (List ℕ) → Option (List (List ℕ))
words_asked [] = None
words_asked (first ∷ more) = if bytes_eq first (codes "specialise") then words_in more else None

-- what a run is asked for: which lines of a source are reached, with the definitions of these words (own)
pub data Job : Type 0 where
  Specialise : List (List ℕ) → Job

-- what the arguments ask for, if they have the form of a command (own)
abbrev pub job_of : List (List ℕ) → Option Job
job_of arguments = option_map Specialise (words_asked arguments)

-- the word defines a macro (GCC's manual, "Options Controlling the Preprocessor", -D)
abbrev pub IsDefinition : List ℕ → Type 0
IsDefinition word = (d : List ℕ × Definition) × WordDefines word (Some d)

-- each word of -D is a definition (own)
abbrev pub IsSound : Job → Type 0
IsSound (Specialise words) = All IsDefinition words

-- the arguments are a command, which asks for this (own)
pub record Asks (arguments : List (List ℕ)) (job : Job) : Type 0 where
  pub is : job_of arguments ≡ Some job
  pub sound : IsSound job

-- the arguments are no command (own)
abbrev pub AsksNothing : List (List ℕ) → Type 0
AsksNothing arguments = (job : Job) → Asks arguments job → ⊥
