-- What private clauses say of items.
use Rattle.std.specs.Prelude.{◌≡◌, ℕ, List, Some, None}
use Rattle.serde_json.specs.Data.{Data}
use Rattle.cb_compdb.specs.Databases.{IsNoObject, LacksField, LacksQuote, StopsAt, Lacks, Written, IsWritten, HasOpen, written_in}
use Rattle.cb_compdb.specs.declared.fault.BadDatabase.{BadDatabase}
use Rattle.cb_compdb.specs.declared.fault.BadDatabase.TheVariants as bad
use Rattle.cb_compdb.specs.declared.fault.DatabaseFault.{DatabaseFault}
use Rattle.cb_compdb.specs.declared.fault.DatabaseFault.TheVariants as fault
use Rattle.cb_compdb.specs.declared.fault.ItemFault.{ItemFault}
use Rattle.cb_compdb.specs.declared.fault.ItemFault.TheVariants.{NotObject, Field, OpenQuote, NoMemory}

-- these are the words that a value gives
abbrev pub AreWords : Data → List (List ℕ) → Type 0
AreWords d words = (written : Written) × (written_in d ≡ Some written) × IsWritten written words

-- why a value gives no words
abbrev pub LacksWords : Data → ItemFault → Type 0
LacksWords d NotObject = ⊥
LacksWords d Field = written_in d ≡ None
LacksWords d OpenQuote = (written : Written) × (written_in d ≡ Some written) × HasOpen written
LacksWords d NoMemory = Unit {0}

-- why an item is no entry
abbrev pub IsWrong : Data → ItemFault → Type 0
IsWrong d NotObject = IsNoObject d
IsWrong d Field = LacksField d
IsWrong d OpenQuote = LacksQuote d
IsWrong d NoMemory = Unit {0}

-- the fault of a database whose item at this place has this fault
abbrev pub fault_at : ℕ → ItemFault → DatabaseFault
fault_at place NotObject = fault.Bad (bad.NotObject place)
fault_at place Field = fault.Bad (bad.Field place)
fault_at place OpenQuote = fault.Bad (bad.OpenQuote place)
fault_at place NoMemory = fault.NoMemory

-- the first of these items that is no entry has this fault
abbrev pub FailsWith : List Data → BadDatabase → Type 0
FailsWith items bad.NotJson = ⊥
FailsWith items bad.NotArray = ⊥
FailsWith items bad.TooMany = ⊥
FailsWith items (bad.NotObject place) = StopsAt items place IsNoObject
FailsWith items (bad.Field place) = StopsAt items place LacksField
FailsWith items (bad.OpenQuote place) = StopsAt items place LacksQuote

-- a refusal for another cause than memory tells why these items are no entries
abbrev pub TellsItem : DatabaseFault → List Data → Type 0
TellsItem (fault.Bad bad) items = FailsWith items bad
TellsItem fault.NoMemory items = Unit {0}

-- a refusal for another cause than memory tells why this value is no database
abbrev pub TellsValue : DatabaseFault → Data → Type 0
TellsValue (fault.Bad bad) d = Lacks d bad
TellsValue fault.NoMemory d = Unit {0}
