-- Why words are no job, and what is then printed.
use Rattle.std.specs.Prelude.{◌≡◌, ℕ, List, [], ◌∷◌, ◌++◌, codes, Option, Some, None, Result, Ok, Err}
use Rattle.cb_words.specs.declared.fault.BadWords.{BadWords}
use Rattle.cb_words.specs.declared.fault.BadWords.TheVariants.{NoCommand, UnknownCommand, UnknownOption, RepeatedOption, MissingValue, MissingOption, UnknownKind, BadFolder, BadNumber, OutOfRange, BadPath, WrongCount, BadDefinition}
use Rattle.cb_words.specs.declared.fault.WordsFault.{WordsFault}
use Rattle.cb_words.specs.declared.fault.WordsFault.TheVariants.{Bad, NoMemory}

-- what is printed where the words are no job, whatever the fault is (own)
abbrev pub usage_text : List ℕ
usage_text = codes "usage: codebasin specialise|report|stdio|serve|generate" ++ 10 ∷ []

-- what a fault means, as it prints (own)
abbrev pub fault_text : BadWords → List ℕ
fault_text NoCommand = codes "there is no command"
fault_text UnknownCommand = codes "the first word names no command"
fault_text UnknownOption = codes "the command has no such option"
fault_text RepeatedOption = codes "an option stands twice"
fault_text MissingValue = codes "an option has no value"
fault_text MissingOption = codes "an option is missing"
fault_text UnknownKind = codes "there is no such kind of report"
fault_text BadFolder = codes "the text names no folder"
fault_text BadNumber = codes "the text is no number"
fault_text OutOfRange = codes "the number is out of its range"
fault_text BadPath = codes "the text is no path"
fault_text WrongCount = codes "there are too few or too many words"
fault_text BadDefinition = codes "the word of a -D is no definition"

-- what a refusal prints (own)
abbrev pub refusal_text : WordsFault → List ℕ
refusal_text (Bad bad) = fault_text bad
refusal_text NoMemory = codes "out of memory"

-- a refusal for another cause than memory is that of the words (own)
abbrev pub Refuses : {A : Type 0} → WordsFault → Result A BadWords → Type 0
Refuses (Bad bad) answer = answer ≡ Err bad
Refuses NoMemory answer = Unit {0}

-- the cause of a refusal, if that is not memory, is such a one (own)
abbrev pub HasCause : WordsFault → (BadWords → Type 0) → Type 0
HasCause (Bad bad) is = is bad
HasCause NoMemory is = Unit {0}

-- a value, or else this fault (own)
abbrev pub or_fault : {A : Type 0} → BadWords → Option A → Result A BadWords
or_fault bad None = Err bad
or_fault bad (Some value) = Ok value

-- what follows from a value, unless there is a fault before it (own)
abbrev pub and_then : {A B : Type 0} → Result A BadWords → (A → Result B BadWords) → Result B BadWords
and_then (Err bad) next = Err bad
and_then (Ok value) next = next value
