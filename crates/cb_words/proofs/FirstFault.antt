-- The first fault of parts, step by step.
use Rattle.std.proofs.Common.{◌≡◌, ℕ, ◌+◌, ◌<◌, List, length, get_or, take, drop, true, false, Some, None, refl}
use Rattle.cb_words.specs.declared.fault.BadWords.{BadWords}
use Rattle.std.specs.List.{list_any}
use Rattle.cb_words.specs.declared.option_name.OptionName.{OptionName}
use Rattle.cb_words.specs.declared.fault.BadWords.TheVariants.{RepeatedOption}
use Rattle.cb_words.specs.Parts.{Part, Given, is_of, part_fault, first_fault}
use Rattle.std.proofs.lemmas.List.{take_more}
use Rattle.cb_words.proofs.Lists.{drop_one}

-- a part without a fault is passed
pub passed : (parts : List Part) (i : ℕ) (d : Part) → i < length parts → part_fault (take i parts) (get_or parts i d) ≡ None
    → first_fault (take (i + 1) parts) (drop (i + 1) parts) ≡ first_fault (take i parts) (drop i parts)
passed parts i d within none = rw (drop_one parts i d within, none, take_more parts i d within) refl

-- a part with a fault decides
pub decides : (parts : List Part) (i : ℕ) (d : Part) (bad : BadWords) → i < length parts → part_fault (take i parts) (get_or parts i d) ≡ Some bad
    → first_fault (take i parts) (drop i parts) ≡ Some bad
decides parts i d bad within some = rw (drop_one parts i d within, some) refl

-- an option with its value, behind itself
pub repeated : (before : List Part) (p : Part) (option : OptionName) (value : List ℕ) → p ≡ Given option value → list_any (is_of option) before ≡ true
    → Some RepeatedOption ≡ part_fault before p
repeated before p option value e f = rw (e, f) refl

-- an option with its value, behind others
pub new : (before : List Part) (p : Part) (option : OptionName) (value : List ℕ) → p ≡ Given option value → list_any (is_of option) before ≡ false
    → None ≡ part_fault before p
new before p option value e f = rw (e, f) refl
