-- What a compilation database says: its entries, or its first fault, over the JSON value that the kit's crate
-- `serde_json` reads (Clang's manual, "JSON Compilation Database Format Specification").
use Rattle.std.specs.Prelude.{◌≡◌, ◌⊎◌, ℕ, zero, suc, ◌<◌, ◌≤◌, List, [], ◌∷◌, length, codes, Option, Some, None, option_map, option_and_then, IsSome, IsUtf8}
use Rattle.serde_json.specs.Data.{Data, Items, no_items, item}
use Rattle.serde_json.specs.Find.{get, as_str, as_array, as_object}
use Rattle.serde_json.specs.Read.{read}
use Rattle.cb_compdb.specs.Pieces.{HasWords, HasOpenQuote}
use Rattle.cb_compdb.specs.declared.entry.Entry.{Entry}
use Rattle.cb_compdb.specs.declared.fault.BadDatabase.{BadDatabase}
use Rattle.cb_compdb.specs.declared.fault.BadDatabase.TheVariants.{NotJson, NotArray, NotObject, Field, OpenQuote, TooMany}

-- the items of an array, as a list (own)
abbrev pub list_of : Items → List Data
list_of no_items = []
list_of (item d ds) = d ∷ list_of ds

-- the items of a value that is an array (own)
abbrev pub items_in : Data → Option (List Data)
items_in d = option_map list_of (as_array d)

-- the text that stands at a key (own)
abbrev pub text_at : List ℕ → Data → Option (List ℕ)
text_at key d = option_and_then as_str (get key d)

-- the texts of items that are all texts (own)
abbrev pub texts_of : List Data → Option (List (List ℕ))
texts_of [] = Some []
texts_of (d ∷ ds) = option_and_then (λ text. option_map (λ texts. text ∷ texts) (texts_of ds)) (as_str d)

-- how the words of an entry are written: one by one, or as a command (Clang's manual)
pub data Written : Type 0 where
  arguments : List (List ℕ) → Written
  command : List ℕ → Written

-- where `arguments` stands, whatever its value, `command` is not looked at (Clang's manual, and own)
abbrev pub written_by : Option Data → Option (List ℕ) → Option Written
written_by (Some d) text = option_map arguments (option_and_then texts_of (items_in d))
written_by None text = option_map command text

-- the words of an entry as they are written (Clang's manual)
abbrev pub written_in : Data → Option Written
written_in d = written_by (get (codes "arguments") d) (text_at (codes "command") d)

-- the fields of an entry (Clang's manual)
pub record Fields : Type 0 where
  pub directory : List ℕ
  pub file : List ℕ
  pub written : Written

-- the fields of an entry, where each stands there with its type (Clang's manual)
unfoldable pub fields_of : Data → Option Fields
fields_of d =
    option_and_then (λ directory. option_and_then (λ file. option_map
    (λ written. record { directory = directory; file = file; written = written })
    (written_in d)) (text_at (codes "file") d)) (text_at (codes "directory") d)

-- the words that are written so (own)
abbrev pub IsWritten : Written → List (List ℕ) → Type 0
IsWritten (arguments texts) words = words ≡ texts
IsWritten (command text) words = HasWords text words

-- a quote has no end in them (own)
abbrev pub HasOpen : Written → Type 0
HasOpen (arguments texts) = ⊥
HasOpen (command text) = HasOpenQuote text

-- an item is an entry (Clang's manual)
abbrev pub IsEntry : Data → Entry → Type 0
IsEntry d entry =
    (fields : Fields) × (fields_of d ≡ Some fields) × (entry.directory ≡ fields.directory) × (entry.file ≡ fields.file)
    × IsWritten fields.written entry.words

-- it is no object (own)
abbrev pub IsNoObject : Data → Type 0
IsNoObject d = as_object d ≡ None

-- it is an object that lacks a field, or has one of another type (own)
abbrev pub LacksField : Data → Type 0
LacksField d = IsSome (as_object d) × (fields_of d ≡ None)

-- it has its fields, and a quote without an end (own)
abbrev pub LacksQuote : Data → Type 0
LacksQuote d = (fields : Fields) × (fields_of d ≡ Some fields) × HasOpen fields.written

-- the items are these entries, one by one (own)
abbrev pub AreEntries : List Data → List Entry → Type 0
AreEntries [] [] = Unit {0}
AreEntries [] (entry ∷ entries) = ⊥
AreEntries (d ∷ ds) [] = ⊥
AreEntries (d ∷ ds) (entry ∷ entries) = IsEntry d entry × AreEntries ds entries

-- the items before this place, from 0, are entries, and the fact holds of the item at it (own)
abbrev pub StopsAt : List Data → ℕ → (Data → Type 0) → Type 0
StopsAt [] place P = ⊥
StopsAt (d ∷ ds) zero P = P d
StopsAt (d ∷ ds) (suc place) P = (entry : Entry) × IsEntry d entry × StopsAt ds place P

-- a JSON value is an array of at most 20,000 items (own)
abbrev pub HasItems : Data → List Data → Type 0
HasItems d items = (items_in d ≡ Some items) × (length items ≤ 20000)

-- the entries of a JSON value (Clang's manual)
abbrev pub HasEntries : Data → List Entry → Type 0
HasEntries d entries = (items : List Data) × HasItems d items × AreEntries items entries

-- the items before this place are entries, and the fact holds of the item at it (own)
abbrev pub Stops : Data → ℕ → (Data → Type 0) → Type 0
Stops d place P = (items : List Data) × HasItems d items × StopsAt items place P

-- the first fault of a JSON value: it is no array, it has too many items, or the first item that is no entry has this
-- fault (own)
abbrev pub Lacks : Data → BadDatabase → Type 0
Lacks d NotJson = ⊥
Lacks d NotArray = items_in d ≡ None
Lacks d TooMany = (items : List Data) × (items_in d ≡ Some items) × (20000 < length items)
Lacks d (NotObject place) = Stops d place IsNoObject
Lacks d (Field place) = Stops d place LacksField
Lacks d (OpenQuote place) = Stops d place LacksQuote

-- the JSON value of a file, in UTF-8, as the crate reads it: of a key that stands twice in an object the last value
-- counts (RFC 8259)
abbrev pub IsJson : List ℕ → Data → Type 0
IsJson bytes d = IsUtf8 bytes × (read bytes ≡ Some d)

-- a file is a database with these entries (Clang's manual)
abbrev pub IsDatabase : List ℕ → List Entry → Type 0
IsDatabase bytes entries = (d : Data) × IsJson bytes d × HasEntries d entries

-- the first fault of a file: it is no JSON, or its value has this fault (own)
abbrev pub HasFault : List ℕ → BadDatabase → Type 0
HasFault bytes bad = ((bad ≡ NotJson) × ((d : Data) → IsJson bytes d → ⊥)) ⊎ ((d : Data) × IsJson bytes d × Lacks d bad)
