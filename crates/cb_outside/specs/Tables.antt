-- Texts by their keys, and the tables of what is kept.
use Rattle.std.specs.Prelude.{◌≡◌, ℕ, ◌+◌, List, [], ◌∷◌, ◌++◌, length, map, Option}
use Rattle.std.specs.BTreeMap.{insert_entry, is_at}
use Rattle.std.specs.List.Sorted.{IsStrictlySortedBy}
use Rattle.std.specs.Map.{keys_of, lookup, remove_entry}
use Rattle.std.specs.Ordering.{nat_cmp}
use Rattle.std.specs.Cmp.Lexicographic.{slice_cmp}
use Rattle.cb_outside.specs.declared.kept.Kept.{Kept}
use Rattle.cb_outside.specs.declared.kept.Table.{Table}
use Rattle.cb_outside.specs.declared.kept.Table.TheVariants.{Analysis, Databases, Sources, Measurements}

-- texts by their keys: pairs of a key and bytes, in the order of the keys (own)
abbrev pub Texts : Type 0
Texts = List (List ℕ × List ℕ)

-- the bytes at a key, if some stand there (own)
abbrev pub text_at : List ℕ → Texts → Option (List ℕ)
text_at key texts = lookup (is_at (slice_cmp nat_cmp key)) texts

-- the texts with these bytes at a key, in place of those that stood there (own)
abbrev pub put : List ℕ → List ℕ → Texts → Texts
put key bytes texts = insert_entry (slice_cmp nat_cmp) texts key bytes

-- the texts without the one at a key (own)
abbrev pub removed : List ℕ → Texts → Texts
removed key texts = remove_entry (is_at (slice_cmp nat_cmp key)) texts

-- the keys of texts rise, so that each stands once (own)
abbrev pub Rise : Texts → Type 0
Rise texts = IsStrictlySortedBy (slice_cmp nat_cmp) (keys_of texts)

-- what is kept: the texts of each table (own)
pub record Tables : Type 0 where
  pub analysis : Texts
  pub databases : Texts
  pub sources : Texts
  pub measurements : Texts

-- tables in which nothing is kept (own)
abbrev pub no_tables : Tables
no_tables = record { analysis = []; databases = []; sources = []; measurements = [] }

-- the tables with the texts of one table changed (own)
abbrev pub changed : Table → (Texts → Texts) → Tables → Tables
changed Analysis change t = record t { analysis = change t.analysis }
changed Databases change t = record t { databases = change t.databases }
changed Sources change t = record t { sources = change t.sources }
changed Measurements change t = record t { measurements = change t.measurements }

-- how many texts are kept in all tables (own)
abbrev pub entry_count : Tables → ℕ
entry_count t = length t.analysis + length t.databases + length t.sources + length t.measurements

-- the tables after entries are put into them one after another (own)
abbrev pub with_entries : List Kept → Tables → Tables
with_entries [] t = t
with_entries (e ∷ es) t = with_entries es (changed e.table (put e.key e.bytes) t)

-- entries that are those of the tables, each once: put one after another they make the tables, and there are no more (own)
pub record AreEntries (entries : List Kept) (t : Tables) : Type 0 where
  pub make : with_entries entries no_tables ≡ t
  pub each_once : length entries ≡ entry_count t

-- the entries of one table, in the order of the keys (own)
abbrev pub entries_in : Table → Texts → List Kept
entries_in table texts = map (λ e. record { table = table; key = e.0; bytes = e.1 }) texts

-- the entries of all tables, table by table (own)
abbrev pub entries_of : Tables → List Kept
entries_of t = entries_in Analysis t.analysis ++ (entries_in Databases t.databases ++ (entries_in Sources t.sources ++ entries_in Measurements t.measurements))
