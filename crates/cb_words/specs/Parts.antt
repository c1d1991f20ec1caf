-- The words behind a command are cut into options with their values and other words.
use Rattle.std.specs.Prelude.{ℕ, ◌==◌, ◌+◌, if◌then◌else◌, Bool, false, List, [], ◌∷◌, ◌++◌, take, drop, position, bytes_eq, Option, Some, None, option_map, Result, Ok, Err}
use Rattle.std.specs.Option.{option_map_or, option_or}
use Rattle.std.specs.List.{find, list_any}
use Rattle.cb_words.specs.declared.option_name.OptionName.{OptionName}
use Rattle.cb_words.specs.declared.fault.BadWords.{BadWords}
use Rattle.cb_words.specs.declared.fault.BadWords.TheVariants.{UnknownOption, RepeatedOption, MissingValue}
use Rattle.cb_words.specs.OptionNames.{name_of, is_same}

-- an option with its value; an option that is the last word, without a value; a word that begins as an option does and is
-- none; or another word (own)
pub data Part : Type 0 where
  Given : OptionName → List ℕ → Part
  Lone : OptionName → Part
  Stray : Part
  Plain : List ℕ → Part

-- the option that a word names, among these (own)
abbrev pub option_named : List OptionName → List ℕ → Option OptionName
option_named options word = find (λ option. bytes_eq (name_of option) word) options

-- the option whose name stands before a place in a word, with what stands behind that place as its value (own)
abbrev pub joined_at : List OptionName → List ℕ → Option ℕ → Option Part
joined_at options word None = None
joined_at options word (Some n) = option_map (λ option. Given option (drop (n + 1) word)) (option_named options (take n word))

-- the option whose name stands before the first = of a word, with what stands behind it as its value (own)
abbrev pub joined : List OptionName → List ℕ → Option Part
joined options word = joined_at options word (position (λ b. b == 61) word)

-- a word that begins with - (own)
abbrev pub begins_as_option : List ℕ → Bool
begins_as_option [] = false
begins_as_option (b ∷ bs) = b == 45

-- what a word is that gives no value to an option (own)
abbrev pub other_part : List ℕ → Part
other_part word = if begins_as_option word then Stray else Plain word

-- what a word is that does not name an option (own)
abbrev pub own_part : List OptionName → List ℕ → Part
own_part options word = option_map_or (λ part. part) (joined options word) (other_part word)

-- the parts of the words behind a command with these options: a word that names one takes the next word as the value,
-- whatever that word is (own)
abbrev pub parts_of : List OptionName → List (List ℕ) → List Part
parts_of options [] = []
parts_of options (word ∷ []) = option_map_or Lone (option_named options word) (own_part options word) ∷ []
parts_of options (word ∷ next ∷ more) =
    option_map_or (λ option. Given option next ∷ parts_of options more) (option_named options word)
    (own_part options word ∷ parts_of options (next ∷ more))

-- the part is of this option (own)
abbrev pub is_of : OptionName → Part → Bool
is_of option (Given other value) = is_same option other
is_of option (Lone other) = is_same option other
is_of option Stray = false
is_of option (Plain word) = false

-- what is wrong with a part behind others, if something is (own)
abbrev pub part_fault : List Part → Part → Option BadWords
part_fault before (Given option value) = if list_any (is_of option) before then Some RepeatedOption else None
part_fault before (Lone option) = if list_any (is_of option) before then Some RepeatedOption else Some MissingValue
part_fault before Stray = Some UnknownOption
part_fault before (Plain word) = None

-- the first fault of the parts that stand behind others (own)
abbrev pub first_fault : List Part → List Part → Option BadWords
first_fault before [] = None
first_fault before (p ∷ ps) = option_or (part_fault before p) (first_fault (before ++ p ∷ []) ps)

-- the parts, unless there is a fault (own)
abbrev pub unless_faulty : Option BadWords → List Part → Result (List Part) BadWords
unless_faulty None parts = Ok parts
unless_faulty (Some bad) parts = Err bad

-- the parts of the words behind a command with these options, or their first fault (own)
abbrev pub cut_words : List OptionName → List (List ℕ) → Result (List Part) BadWords
cut_words options words = unless_faulty (first_fault [] (parts_of options words)) (parts_of options words)
