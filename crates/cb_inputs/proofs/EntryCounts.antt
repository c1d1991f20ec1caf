-- How many entries there are.
use Rattle.std.proofs.Common.{◌≡◌, ◌∙◌, ℕ, ◌≤◌, List, [], ◌∷◌, length, Option, refl, ap, arith}
use Rattle.std.specs.Prelude.{unwrap_or, option_map}
use Rattle.std.specs.BTreeMap.{is_at}
use Rattle.std.specs.Ordering.{nat_cmp}
use Rattle.std.specs.Cmp.Lexicographic.{slice_cmp}
use Rattle.std.proofs.lemmas.Map.Made.{lookup-map_values}
use Rattle.cb_compdb.specs.Databases.{AreEntries}
use Rattle.cb_compdb.specs.declared.entry.Entry.{Entry}
use Rattle.cb_inputs.specs.declared.database.Database.{Database}
use Rattle.cb_inputs.specs.Texts.{ByPath, value_at}
use Rattle.cb_inputs.specs.Databases.{database_entries, IsReadDatabase}
use Rattle.cb_inputs.specs.Commands.{entries_at}

-- entries are as many as the items of their array
as_many : (items : _) (entries : List Entry) → AreEntries items entries → length entries ≡ length items
as_many [] [] h = refl
as_many [] (e ∷ es) h = absurd h
as_many (d ∷ ds) [] h = absurd h
as_many (d ∷ ds) (e ∷ es) h = omega (arith, as_many ds es h.1)

-- a database has at most 20,000 entries
pub few_entries : (database : Database) → IsReadDatabase database → length database.entries ≤ 20000
few_entries database read =
    let made = read.says.2 in
    omega (arith, as_many made.0 database.entries made.2, made.1.1)

-- the entries at a path are those of the database that stands there
pub entries_there : (databases : ByPath Database) (path : List ℕ) (found : Option Database) → value_at path databases ≡ found
    → entries_at (database_entries databases) path ≡ unwrap_or (option_map (λ (d : Database). d.entries) found) []
entries_there databases path found h =
    ap (λ (o : Option (List Entry)). unwrap_or o []) (lookup-map_values (λ (d : Database). d.entries) (is_at (slice_cmp nat_cmp path)) databases ∙ ap (option_map (λ (d : Database). d.entries)) h)
