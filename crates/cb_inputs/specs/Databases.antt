-- The databases that are kept.
use Rattle.std.specs.Prelude.{List}
use Rattle.cb_compdb.specs.Databases.{IsDatabase}
use Rattle.cb_compdb.specs.declared.entry.Entry.{Entry}
use Rattle.cb_outside.specs.Tables.{Texts}
use Rattle.cb_inputs.specs.declared.database.Database.{Database}
use Rattle.cb_inputs.specs.Texts.{ByPath, each_read}

-- the bytes of databases (own)
abbrev pub database_texts : ByPath Database → Texts
database_texts databases = each_read (λ (database : Database). database.bytes) databases

-- the entries of databases (own)
abbrev pub database_entries : ByPath Database → ByPath (List Entry)
database_entries databases = each_read (λ (database : Database). database.entries) databases

-- the entries of a database are those that its bytes say (own)
pub record IsReadDatabase (database : Database) : Type 0 where
  pub says : IsDatabase database.bytes database.entries
