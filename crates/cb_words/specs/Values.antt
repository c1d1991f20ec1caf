-- The values of options, and the words that are none.
use Rattle.std.specs.Prelude.{ℕ, ◌==◌, ◌&&◌, nat_le, if◌then◌else◌, List, [], ◌∷◌, length, bytes_eq, Option, Some, None, Result, Ok, Err}
use Rattle.std.specs.Option.{option_or}
use Rattle.std.specs.List.{find, filter_map}
use Rattle.cb_paths.specs.Paths.{path_of, folder_at}
use Rattle.cb_measure.specs.Figures.{counted_digits}
use Rattle.cb_reports.specs.declared.kind.Kind.{Kind}
use Rattle.cb_reports.specs.declared.kind.Kind.TheVariants.{Summary, Files, Clustering, Duplicates, Efficiency, Cascade, Portability, Navigation, Notes}
use Rattle.cb_reports.specs.Kinds as kinds
use Rattle.cb_words.specs.declared.option_name.OptionName.{OptionName}
use Rattle.cb_words.specs.declared.fault.BadWords.{BadWords}
use Rattle.cb_words.specs.declared.fault.BadWords.TheVariants.{MissingOption, UnknownKind, BadFolder, BadNumber, OutOfRange, BadPath, WrongCount}
use Rattle.cb_words.specs.Faults.{or_fault, and_then}
use Rattle.cb_words.specs.OptionNames.{is_same}
use Rattle.cb_words.specs.Parts.{Part, Given, Lone, Stray, Plain}

-- the value that a part gives to an option (own)
abbrev pub value_of : OptionName → Part → Option (List ℕ)
value_of option (Given other value) = if is_same option other then Some value else None
value_of option (Lone other) = None
value_of option Stray = None
value_of option (Plain word) = None

-- the first value that parts give to an option (own)
abbrev pub value_in : OptionName → List Part → Option (List ℕ)
value_in option [] = None
value_in option (p ∷ ps) = option_or (value_of option p) (value_in option ps)

-- the word of a part that is of no option (own)
abbrev pub plain_word : Part → Option (List ℕ)
plain_word (Given option value) = None
plain_word (Lone option) = None
plain_word Stray = None
plain_word (Plain word) = Some word

-- the words that are of no option, if there are so many (own)
abbrev pub plain_words : ℕ → List Part → Result (List (List ℕ)) BadWords
plain_words count parts =
    if length (filter_map plain_word parts) == count then Ok (filter_map plain_word parts) else Err WrongCount

-- all kinds of reports (own)
abbrev pub all_kinds : List Kind
all_kinds = Summary ∷ Files ∷ Clustering ∷ Duplicates ∷ Efficiency ∷ Cascade ∷ Portability ∷ Navigation ∷ Notes ∷ []

-- the kind of report that a text names (own)
unfoldable pub kind_named : List ℕ → Option Kind
kind_named name = find (λ kind. bytes_eq (kinds.name_of kind) name) all_kinds

-- a kind of report; the summary where there is no text (own)
abbrev pub kind_or_summary : Option (List ℕ) → Result Kind BadWords
kind_or_summary None = Ok Summary
kind_or_summary (Some name) = or_fault UnknownKind (kind_named name)

-- the folder that a text names from another one, which it is itself where there is no text (own)
abbrev pub folder_or_here : List ℕ → Option (List ℕ) → Result (List ℕ) BadWords
folder_or_here here None = Ok here
folder_or_here here (Some text) = or_fault BadFolder (folder_at text here)

-- the path that a text names (own)
abbrev pub path_in : List ℕ → Result (List ℕ) BadWords
path_in text = or_fault BadPath (path_of text)

-- the path that a text names; none where there is no text (own)
abbrev pub path_or_none : Option (List ℕ) → Result (Option (List ℕ)) BadWords
path_or_none None = Ok None
path_or_none (Some text) = and_then (path_in text) (λ path. Ok (Some path))

-- a number, if it is in its range (own)
abbrev pub in_range : ℕ → ℕ → ℕ → Result ℕ BadWords
in_range low high number = if nat_le low number && nat_le number high then Ok number else Err OutOfRange

-- the number of one to ten decimal digits, if it is in its range (own)
abbrev pub number_in : ℕ → ℕ → List ℕ → Result ℕ BadWords
number_in low high text = and_then (or_fault BadNumber (counted_digits 10 text)) (in_range low high)

-- such a number of a text that must be there (own)
abbrev pub needed_number : ℕ → ℕ → Option (List ℕ) → Result ℕ BadWords
needed_number low high text = and_then (or_fault MissingOption text) (number_in low high)

-- the number of workers, from 1 to 64; 1 where there is no text (own)
abbrev pub workers_or_one : Option (List ℕ) → Result ℕ BadWords
workers_or_one None = Ok 1
workers_or_one (Some text) = number_in 1 64 text
