-- The numbers, names and texts of the faults of a database (own).
use Rattle.std.specs.Prelude.{ℕ, List, ◌++◌, codes, decimal}
use Rattle.cb_compdb.specs.Databases.{HasFault}
use Rattle.cb_compdb.specs.declared.fault.BadDatabase.{BadDatabase}
use Rattle.cb_compdb.specs.declared.fault.BadDatabase.TheVariants.{NotJson, NotArray, NotObject, Field, OpenQuote, TooMany}
use Rattle.cb_compdb.specs.declared.fault.DatabaseFault.{DatabaseFault}
use Rattle.cb_compdb.specs.declared.fault.DatabaseFault.TheVariants.{Bad, NoMemory}

-- the number of a fault, as answers give it (own)
abbrev pub fault_number : BadDatabase → ℕ
fault_number NotJson = 1
fault_number NotArray = 2
fault_number (NotObject place) = 3
fault_number (Field place) = 4
fault_number (OpenQuote place) = 5
fault_number TooMany = 6

-- the name of a fault, as answers give it (own)
abbrev pub fault_name : BadDatabase → List ℕ
fault_name NotJson = codes "NotJson"
fault_name NotArray = codes "NotArray"
fault_name (NotObject place) = codes "NotObject"
fault_name (Field place) = codes "Field"
fault_name (OpenQuote place) = codes "OpenQuote"
fault_name TooMany = codes "TooMany"

-- what a fault prints (own)
abbrev pub bad_text : BadDatabase → List ℕ
bad_text NotJson = codes "the file is no JSON"
bad_text NotArray = codes "the JSON value is no array"
bad_text (NotObject place) = codes "entry " ++ decimal place ++ codes " is no object"
bad_text (Field place) = codes "entry " ++ decimal place ++ codes " lacks a field, or has one of another type"
bad_text (OpenQuote place) = codes "the command of entry " ++ decimal place ++ codes " has a quote without an end"
bad_text TooMany = codes "there are more than 20,000 entries"

-- what a refusal prints (own)
abbrev pub refusal_text : DatabaseFault → List ℕ
refusal_text (Bad bad) = bad_text bad
refusal_text NoMemory = codes "out of memory"

-- a refusal for another cause than memory tells the first fault of the file (own)
abbrev pub Tells : DatabaseFault → List ℕ → Type 0
Tells (Bad bad) bytes = HasFault bytes bad
Tells NoMemory bytes = Unit {0}
