-- What the items of a value are.
use Rattle.std.proofs.Common.{◌≡◌, ◌∙◌, ◌+◌, ◌<◌, ◌≤◌, ℕ, zero, suc, List, [], ◌∷◌, ◌++◌, map, length, take, get_or, Option, Some, None, codes, option_map, option_and_then, IsSome, refl, sym, ap, subst, arith}
use Rattle.serde_json.specs.Data.{Data}
use Rattle.serde_json.specs.Find.{get, as_array, as_object}
use Rattle.serde_json.specs.View.{items_of}
use Rattle.cb_compdb.specs.Databases.{list_of, items_in, text_at, texts_of, Written, arguments, command, written_by, written_in, fields_of, HasOpen, IsEntry, IsNoObject, LacksField, LacksQuote, AreEntries, StopsAt, HasEntries}
use Rattle.cb_compdb.specs.Pieces.{HasWords, HasOpenQuote}
use Rattle.cb_compdb.specs.declared.entry.Entry.{Entry}
use Rattle.cb_compdb.specs.declared.fault.BadDatabase.TheVariants as bad
use Rattle.cb_compdb.specs.declared.fault.DatabaseFault.{DatabaseFault}
use Rattle.cb_compdb.specs.declared.fault.DatabaseFault.TheVariants as fault
use Rattle.cb_compdb.specs.declared.fault.ItemFault.{ItemFault}
use Rattle.cb_compdb.specs.declared.fault.ItemFault.TheVariants.{NotObject, Field, OpenQuote, NoMemory}
use Rattle.cb_compdb.specs.inner.Items.{AreWords, LacksWords, IsWrong, TellsItem, TellsValue, fault_at}

-- the words of an item with a command
pub command_read : (d : Data) (text : List ℕ) (words : List (List ℕ)) → get (codes "arguments") d ≡ None → Some text ≡ text_at (codes "command") d
    → HasWords text words → AreWords d words
command_read d text words none is h =
    (command text, ap (λ a. written_by a (text_at (codes "command") d)) none ∙ ap (λ t. option_map command t) (sym is), h)

-- a command with an open quote
pub command_open : (d : Data) (text : List ℕ) → get (codes "arguments") d ≡ None → Some text ≡ text_at (codes "command") d
    → HasOpenQuote text → (written : Written) × (written_in d ≡ Some written) × HasOpen written
command_open d text none is h =
    (command text, ap (λ a. written_by a (text_at (codes "command") d)) none ∙ ap (λ t. option_map command t) (sym is), h)

-- an array is the list of its items
list_of-items_of : (ds : List Data) → list_of (items_of ds) ≡ ds
list_of-items_of [] = refl
list_of-items_of (d ∷ ds) = ap (λ es. d ∷ es) (list_of-items_of ds)

pub items_read : {V : Type 0} (seen : V → Data) (d : Data) (values slice : List V) → Some (items_of (map seen values)) ≡ as_array d → slice ≡ values
    → items_in d ≡ Some (map seen slice)
items_read seen d values slice is same =
    ap (option_map list_of) (sym is) ∙ ap Some (list_of-items_of (map seen values) ∙ ap (map seen) (sym same))

-- the words of an item with arguments
pub arguments_read : (d list : Data) (words : List (List ℕ)) → Some list ≡ get (codes "arguments") d → Some words ≡ option_and_then texts_of (items_in list)
    → AreWords d words
arguments_read d list words is all =
    (arguments words, ap (λ a. written_by a (text_at (codes "command") d)) (sym is) ∙ ap (option_map arguments) (sym all), refl)

-- arguments that are no list of texts
pub arguments_lack : (d list : Data) → Some list ≡ get (codes "arguments") d → None ≡ option_and_then texts_of (items_in list) → written_in d ≡ None
arguments_lack d list is none =
    ap (λ a. written_by a (text_at (codes "command") d)) (sym is) ∙ ap (option_map arguments) (sym none)

-- an item without a folder, and one without a file
pub no_directory : (d : Data) → None ≡ text_at (codes "directory") d → fields_of d ≡ None
unfolding fields_of
no_directory d none = rw (sym none) refl

pub no_file : (d : Data) (directory : List ℕ) → Some directory ≡ text_at (codes "directory") d → None ≡ text_at (codes "file") d → fields_of d ≡ None
unfolding fields_of
no_file d directory is none = rw (sym is, sym none) refl

-- the fields, where the words are written so
fields_by : (d : Data) (directory file : List ℕ) (written : Option Written) → Some directory ≡ text_at (codes "directory") d
    → Some file ≡ text_at (codes "file") d → written_in d ≡ written
    → fields_of d ≡ option_map (λ (w : Written). record { directory = directory; file = file; written = w }) written
unfolding fields_of
fields_by d directory file written is also so = rw (sym is, sym also, so) refl

-- why an item with a folder and a file is no entry
pub wrong_by : (d : Data) (directory file : List ℕ) (fault : ItemFault) → IsSome (as_object d) → Some directory ≡ text_at (codes "directory") d
    → Some file ≡ text_at (codes "file") d → LacksWords d fault → IsWrong d fault
wrong_by d directory file NotObject some is also h = absurd h
wrong_by d directory file Field some is also h = (some, fields_by d directory file None is also h)
wrong_by d directory file OpenQuote some is also h =
    (record { directory = directory; file = file; written = h.0 }, fields_by d directory file (Some h.0) is also h.1, h.2)
wrong_by d directory file NoMemory some is also h = tt

-- an entry
pub entry_read : (d : Data) (directory file : List ℕ) (entry : Entry) → Some directory ≡ text_at (codes "directory") d
    → Some file ≡ text_at (codes "file") d → entry.directory ≡ directory → entry.file ≡ file → AreWords d entry.words → IsEntry d entry
entry_read d directory file entry is also same same' h =
    (record { directory = directory; file = file; written = h.0 }, fields_by d directory file (Some h.0) is also h.1, same, same', h.2)

-- one entry more
pub entries_more : {V : Type 0} (seen : V → Data) (values : List V) (place : ℕ) (value : V) (entries : List Entry) (entry : Entry) → place < length values
    → value ≡ get_or values place value → AreEntries (map seen (take place values)) entries → IsEntry (seen value) entry
    → AreEntries (map seen (take (place + 1) values)) (entries ++ entry ∷ [])
entries_more seen [] place value entries entry within is before here = absurd (omega arith)
entries_more seen (v ∷ vs) zero value [] entry within is before here =
    let P : _ → Type 0 = λ x. IsEntry (seen x) entry in (subst P is here, tt)
entries_more seen (v ∷ vs) zero value (e ∷ es) entry within is before here = absurd before
entries_more seen (v ∷ vs) (suc place) value [] entry within is before here = absurd before
entries_more seen (v ∷ vs) (suc place) value (e ∷ es) entry within is before here =
    let n : suc place + 1 ≡ suc (place + 1) = omega arith in
    let inside : place < length vs = omega arith in
    rw n (before.0, entries_more seen vs place value es entry inside is before.1 here)

-- an item that is no entry
pub stops_here : {V : Type 0} (seen : V → Data) (values : List V) (place : ℕ) (value : V) (entries : List Entry) (P : Data → Type 0) → place < length values
    → value ≡ get_or values place value → AreEntries (map seen (take place values)) entries → P (seen value) → StopsAt (map seen values) place P
stops_here seen [] place value entries P within is before here = absurd (omega arith)
stops_here seen (v ∷ vs) zero value entries P within is before here = let Q : _ → Type 0 = λ x. P (seen x) in subst Q is here
stops_here seen (v ∷ vs) (suc place) value [] P within is before here = absurd before
stops_here seen (v ∷ vs) (suc place) value (e ∷ es) P within is before here =
    let inside : place < length vs = omega arith in
    (e, before.0, stops_here seen vs place value es P inside is before.1 here)

-- its fault, with its place
pub fails_here : {V : Type 0} (seen : V → Data) (values : List V) (place : ℕ) (value : V) (entries : List Entry) (fault : ItemFault) → place < length values
    → value ≡ get_or values place value → AreEntries (map seen (take place values)) entries → IsWrong (seen value) fault
    → TellsItem (fault_at place fault) (map seen values)
fails_here seen values place value entries NotObject within is before here = stops_here seen values place value entries IsNoObject within is before here
fails_here seen values place value entries Field within is before here = stops_here seen values place value entries LacksField within is before here
fails_here seen values place value entries OpenQuote within is before here = stops_here seen values place value entries LacksQuote within is before here
fails_here seen values place value entries NoMemory within is before here = tt

-- the entries of an array
pub database_read : (d : Data) (items : List Data) (entries : List Entry) → items_in d ≡ Some items → length items ≤ 20000 → AreEntries items entries
    → HasEntries d entries
database_read d items entries is few all = (items, (is, few), all)

-- the fault of an array
pub database_fails : (d : Data) (items : List Data) (fault : DatabaseFault) → items_in d ≡ Some items → length items ≤ 20000 → TellsItem fault items
    → TellsValue fault d
database_fails d items (fault.Bad bad.NotJson) is few h = absurd h
database_fails d items (fault.Bad bad.NotArray) is few h = absurd h
database_fails d items (fault.Bad bad.TooMany) is few h = absurd h
database_fails d items (fault.Bad (bad.NotObject place)) is few h = (items, (is, few), h)
database_fails d items (fault.Bad (bad.Field place)) is few h = (items, (is, few), h)
database_fails d items (fault.Bad (bad.OpenQuote place)) is few h = (items, (is, few), h)
database_fails d items fault.NoMemory is few h = tt
