-- The commands of an analysis: the entries of the databases of its platforms.
use Rattle.std.specs.Prelude.{ℕ, List, [], map, length, sum_by, Option, Some, None, unwrap_or, option_and_then}
use Rattle.cb_paths.specs.Paths.{folder_at}
use Rattle.cb_analysis.specs.declared.platform.Platform.{Platform}
use Rattle.cb_analysis.specs.Analyses.{Contents}
use Rattle.cb_compdb.specs.declared.entry.Entry.{Entry}
use Rattle.cb_compdb.specs.declared.made.Made.{Made}
use Rattle.cb_compdb.specs.Commands.{made_of}
use Rattle.cb_inputs.specs.Texts.{ByPath, value_at}
use Rattle.cb_inputs.specs.Readings.{Known}

-- the platforms of an analysis that may be missing (own)
abbrev pub platforms_of : Option Contents → List Platform
platforms_of None = []
platforms_of (Some contents) = contents.platforms

-- the path that the top has in the databases: what `codebase.root` names from a base, and the base itself where it names
-- no folder (own)
abbrev pub root_of : List ℕ → Option Contents → List ℕ
root_of base None = base
root_of base (Some contents) = unwrap_or (option_and_then (λ text. folder_at text base) contents.root) base

-- what the entries of a database make, where the top has this path there (own)
abbrev pub makes : List ℕ → List Entry → List Made
makes root entries = map (λ (entry : Entry). made_of entry root) entries

-- the entries of a database; none where it is absent (own)
abbrev pub entries_at : ByPath (List Entry) → List ℕ → List Entry
entries_at databases path = unwrap_or (value_at path databases) []

-- the number of the entries of all platforms; two platforms with one database have its entries each (own)
abbrev pub command_count : Known → ℕ
command_count k = sum_by (λ (platform : Platform). length (entries_at k.databases platform.commands)) (platforms_of k.analysis)
