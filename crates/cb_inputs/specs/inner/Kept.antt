-- What the maps of inputs keep. No public clause names these words.
use Rattle.std.specs.Prelude.{◌≡◌, ℕ, ◌≤◌, List, length, All, Option, option_map}
use Rattle.std.specs.Map.{values_of}
use Rattle.cb_compdb.specs.declared.entry.Entry.{Entry}
use Rattle.cb_compdb.specs.Databases.{IsDatabase}
use Rattle.cb_inputs.specs.declared.database.Database.{Database}
use Rattle.cb_inputs.specs.declared.source.Source.{Source}
use Rattle.cb_inputs.specs.Sources.{source_texts, IsReadSource}
use Rattle.cb_inputs.specs.declared.refused.Refused.{Refused}
use Rattle.cb_inputs.specs.declared.refused.Refused.TheVariants.{NoMemory}
use Rattle.cb_inputs.specs.declared.refused.LimitName.{LimitName}
use Rattle.cb_inputs.specs.Refusals.{IsDenied}
use Rattle.cb_inputs.specs.declared.refused.BodyFault.{BodyFault}
use Rattle.cb_inputs.specs.Texts.{ByPath, bytes_in, each_read}
use Rattle.cb_inputs.specs.Databases.{database_texts, database_entries, IsReadDatabase}
use Rattle.cb_inputs.specs.declared.kept_analysis.KeptAnalysis.{KeptAnalysis}
use Rattle.cb_inputs.specs.declared.kept_rows.KeptRows.{KeptRows}
use Rattle.cb_inputs.specs.Inputs.{Inputs}
use Rattle.cb_inputs.specs.Readings.{Known}

-- the databases are within the limits, their bytes are counted, and each says what stands in its bytes
pub record AreDatabases (databases : ByPath Database) (total : ℕ) : Type 0 where
  pub few : length databases ≤ 64
  pub counted : total ≡ bytes_in (database_texts databases)
  pub within : total ≤ 268435456
  pub read : All IsReadDatabase (values_of databases)

-- the same of sources
pub record AreSources (sources : ByPath Source) (total : ℕ) : Type 0 where
  pub few : length sources ≤ 20000
  pub counted : total ≡ bytes_in (source_texts sources)
  pub within : total ≤ 268435456
  pub read : All IsReadSource (values_of sources)

-- bytes are a database: they have entries
abbrev pub SaysEntries : List ℕ → Type 0
SaysEntries bytes = (entries : List Entry) × IsDatabase bytes entries

-- a put is refused before the keeper is called: for its inputs, or for want of memory
abbrev pub TellsPut : (BodyFault → Type 0) → List (LimitName × ℕ) → Refused → Type 0
TellsPut HasFault amounts NoMemory = Unit {0}
TellsPut HasFault amounts refused = IsDenied HasFault amounts refused

-- the bytes of what is kept
abbrev pub inputs_of : Option KeptAnalysis → ByPath Database → ByPath Source → Option KeptRows → Inputs
inputs_of analysis databases sources measurements = record {
  analysis = option_map (λ (kept : KeptAnalysis). kept.bytes) analysis;
  databases = database_texts databases;
  sources = source_texts sources;
  measurements = option_map (λ (kept : KeptRows). kept.bytes) measurements;
}

-- what is read of it
abbrev pub known_of : Option KeptAnalysis → ByPath Database → ByPath Source → Option KeptRows → Known
known_of analysis databases sources measurements = record {
  analysis = option_map (λ (kept : KeptAnalysis). kept.contents) analysis;
  databases = database_entries databases;
  sources = each_read (λ (source : Source). source.tree) sources;
  measurements = option_map (λ (kept : KeptRows). kept.rows) measurements;
}
