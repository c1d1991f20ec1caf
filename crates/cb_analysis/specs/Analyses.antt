-- What an analysis says (own).
use Rattle.std.specs.Prelude.{◌≡◌, ℕ, ◌≤◌, not, if◌then◌else◌, Bool, List, [], map, length, Option, Some, None, Result, Ok, Err, codes, option_and_then, option_map}
use Rattle.std.specs.List.{list_any, filter_map}
use Rattle.std.specs.List.Sorted.{IsStrictlySortedBy}
use Rattle.std.specs.Ordering.{nat_cmp}
use Rattle.std.specs.Cmp.Lexicographic.{slice_cmp}
use Rattle.std.specs.Str.{is_utf8}
use Rattle.toml.specs.Data.{Data, Members, as_str}
use Rattle.toml.specs.Parse.{parse_document}
use Rattle.cb_analysis.specs.Tables.{texts_in, at_key, platform_at, entries_in, codebase_at}
use Rattle.cb_analysis.specs.Patterns.{pattern_of, matches}
use Rattle.cb_analysis.specs.Faults.{first_of, faults_of, commands_path}
use Rattle.cb_analysis.specs.declared.pattern.Pattern.{Pattern}
use Rattle.cb_analysis.specs.declared.platform.Platform.{Platform}
use Rattle.cb_analysis.specs.declared.fault.AnalysisKind.TheVariants.{NotToml}
use Rattle.cb_analysis.specs.declared.fault.BadAnalysis.{BadAnalysis}
use Rattle.cb_analysis.specs.declared.fault.AnalysisFault.{AnalysisFault}
use Rattle.cb_analysis.specs.declared.fault.AnalysisFault.TheVariants.{Bad, NoMemory}

-- the platforms, the root of the databases, and the patterns of sources that do not count and of files that are not
-- loaded (own)
pub record Contents : Type 0 where
  pub platforms : List Platform
  pub root : Option (List ℕ)
  pub exclude : List Pattern
  pub skip : List Pattern

-- a platform of this name, if it has a path of commands (own)
abbrev pub platform_of : List ℕ × Data → Option Platform
platform_of (name, d) = option_map (λ path. record { name = name; commands = path }) (commands_path d)

-- what a table without a fault says: its platforms by the bytes of their names, and what stands in `codebase` (own)
abbrev pub contents_of : Members → Contents
contents_of t = record {
  platforms = filter_map platform_of (entries_in (platform_at t));
  root = option_and_then as_str (at_key (codes "root") (codebase_at t));
  exclude = map pattern_of (texts_in (at_key (codes "exclude") (codebase_at t)));
  skip = map pattern_of (texts_in (at_key (codes "skip") (codebase_at t)));
}

-- the contents of a table, unless it has a fault (own)
abbrev pub unless_faulty : Option BadAnalysis → Contents → Result Contents BadAnalysis
unless_faulty None contents = Ok contents
unless_faulty (Some bad) contents = Err bad

-- the table of a file: it is UTF-8 and a TOML document, as the crate `toml` reads one (TOML 1.1)
abbrev pub table_of : List ℕ → Option Members
table_of bytes = if is_utf8 bytes then parse_document bytes else None

-- what a table says, or its first fault; that there is none is the fault NotToml (own)
abbrev pub reading_of : Option Members → Result Contents BadAnalysis
reading_of None = Err (record { kind = NotToml; place = [] })
reading_of (Some t) = unless_faulty (first_of (faults_of t)) (contents_of t)

-- what a file says, or its first fault (own)
unfoldable pub analysis : List ℕ → Result Contents BadAnalysis
analysis bytes = reading_of (table_of bytes)

-- a refusal for another cause than memory is that of the file (own)
abbrev pub Refuses : AnalysisFault → Result Contents BadAnalysis → Type 0
Refuses (Bad bad) answer = answer ≡ Err bad
Refuses NoMemory answer = Unit {0}

-- the names of platforms (own)
abbrev pub names_of : List Platform → List (List ℕ)
names_of platforms = map (λ (platform : Platform). platform.name) platforms

-- the platforms of an analysis are few, and rise by the bytes of their names (own)
pub record ArePlatforms (platforms : List Platform) : Type 0 where
  pub rising : IsStrictlySortedBy (slice_cmp nat_cmp) (names_of platforms)
  pub few : length platforms ≤ 32

-- one of the patterns matches a path (own)
abbrev pub some_match : List Pattern → List ℕ → Bool
some_match patterns path = list_any (λ pattern. matches pattern path) patterns

-- a source counts (own)
abbrev pub counts : Contents → List ℕ → Bool
counts contents path = not (some_match contents.exclude path)

-- a file is kept from being loaded (own)
abbrev pub skips : Contents → List ℕ → Bool
skips contents path = some_match contents.skip path
