-- The faults of an analysis, as a list in their order, of which the first decides (own).
use Rattle.std.specs.Prelude.{◌≡◌, ◌==◌, ℕ, nat_lt, nat_le, if◌then◌else◌, Bool, true, false, List, [], ◌∷◌, ◌++◌, length, map, Option, Some, None, is_some, codes, decimal, option_and_then}
use Rattle.std.specs.List.{flat_map, enumerate_from}
use Rattle.std.specs.Str.{is_utf8}
use Rattle.toml.specs.Data.{Data, Members, get, as_str}
use Rattle.cb_paths.specs.Names.{is_name}
use Rattle.cb_paths.specs.Paths.{path_of}
use Rattle.cb_analysis.specs.Tables.{is_text, is_table, is_text_list, is_absent_or, texts_in, at_key, platform_at, entries_in, codebase_at}
use Rattle.cb_analysis.specs.Patterns.{is_pattern}
use Rattle.cb_analysis.specs.declared.fault.AnalysisKind.{AnalysisKind}
use Rattle.cb_analysis.specs.declared.fault.AnalysisKind.TheVariants.{NotToml, NoPlatform, BadName, NoCommands, WrongType, BadPattern, TooMany, BadPath}
use Rattle.cb_analysis.specs.declared.fault.BadAnalysis.{BadAnalysis}
use Rattle.cb_analysis.specs.declared.fault.AnalysisFault.{AnalysisFault}
use Rattle.cb_analysis.specs.declared.fault.AnalysisFault.TheVariants.{Bad, NoMemory}

-- the number of a kind, as answers give it (own)
abbrev pub kind_number : AnalysisKind → ℕ
kind_number NotToml = 1
kind_number NoPlatform = 2
kind_number BadName = 3
kind_number NoCommands = 4
kind_number WrongType = 5
kind_number BadPattern = 6
kind_number TooMany = 7
kind_number BadPath = 8

-- the name of a kind, as answers give it (own)
abbrev pub kind_name : AnalysisKind → List ℕ
kind_name NotToml = codes "NotToml"
kind_name NoPlatform = codes "NoPlatform"
kind_name BadName = codes "BadName"
kind_name NoCommands = codes "NoCommands"
kind_name WrongType = codes "WrongType"
kind_name BadPattern = codes "BadPattern"
kind_name TooMany = codes "TooMany"
kind_name BadPath = codes "BadPath"

-- what a kind means, as a fault prints it (own)
abbrev pub kind_text : AnalysisKind → List ℕ
kind_text NotToml = codes "the file is no TOML document"
kind_text NoPlatform = codes "there is no platform"
kind_text BadName = codes "a platform cannot have this name"
kind_text NoCommands = codes "the platform has no commands"
kind_text WrongType = codes "the value is of a wrong type"
kind_text BadPattern = codes "the text is no pattern"
kind_text TooMany = codes "there are too many of them"
kind_text BadPath = codes "the text is no path"

-- the place that a fault prints, which is not empty and is UTF-8 (own)
abbrev pub place_shown : List ℕ → Option (List ℕ)
place_shown place = if length place == 0 then None else (if is_utf8 place then Some place else None)

-- a text behind a place, if there is one (own)
abbrev pub text_at : Option (List ℕ) → List ℕ → List ℕ
text_at None text = text
text_at (Some place) text = place ++ codes ": " ++ text

-- what a fault prints (own)
abbrev pub bad_text : BadAnalysis → List ℕ
bad_text bad = text_at (place_shown bad.place) (kind_text bad.kind)

-- what a refusal prints (own)
abbrev pub refusal_text : AnalysisFault → List ℕ
refusal_text (Bad bad) = bad_text bad
refusal_text NoMemory = codes "out of memory"

-- the first fault of a list of possible ones (own)
abbrev pub first_of : List (Option BadAnalysis) → Option BadAnalysis
first_of [] = None
first_of (None ∷ faults) = first_of faults
first_of (Some bad ∷ faults) = Some bad

-- a fault of this kind at this place, unless a test holds (own)
abbrev pub unless : Bool → AnalysisKind → List ℕ → Option BadAnalysis
unless true kind place = None
unless false kind place = Some (record { kind = kind; place = place })

-- the place of a platform, or of a key in it (own)
abbrev pub in_platform : List ℕ → List ℕ → List ℕ
in_platform name key = codes "platform." ++ name ++ key

-- the place of a pattern of a list, by its number from 0 (own)
abbrev pub in_list : List ℕ → ℕ → List ℕ
in_list place at = place ++ codes "." ++ decimal at

-- the text at `commands`, if there is one (own)
abbrev pub commands_text : Data → Option (List ℕ)
commands_text d = option_and_then as_str (get (codes "commands") d)

-- the path that this text is, if it is one (own)
abbrev pub commands_path : Data → Option (List ℕ)
commands_path d = option_and_then path_of (commands_text d)

-- the faults of a platform (own)
abbrev pub platform_faults : List ℕ × Data → List (Option BadAnalysis)
platform_faults (name, d) =
    unless (is_name name) BadName (in_platform name [])
    ∷ unless (is_table d) WrongType (in_platform name [])
    ∷ unless (is_some (get (codes "commands") d)) NoCommands (in_platform name (codes ".commands"))
    ∷ unless (is_some (commands_text d)) WrongType (in_platform name (codes ".commands"))
    ∷ unless (is_some (commands_path d)) BadPath (in_platform name (codes ".commands"))
    ∷ []

-- the faults of the platforms: first those of their table, then those of each by the bytes of the names (own)
abbrev pub platforms_faults : Members → List (Option BadAnalysis)
platforms_faults t =
    unless (is_absent_or is_table (platform_at t)) WrongType (codes "platform")
    ∷ unless (nat_lt 0 (length (entries_in (platform_at t)))) NoPlatform (codes "platform")
    ∷ unless (nat_le (length (entries_in (platform_at t))) 32) TooMany (codes "platform")
    ∷ flat_map platform_faults (entries_in (platform_at t))

-- the faults of patterns, of which the first has this number (own)
abbrev pub pattern_faults : List ℕ → ℕ → List (List ℕ) → List (Option BadAnalysis)
pattern_faults place at texts = map (λ (n, text). unless (is_pattern text) BadPattern (in_list place n)) (enumerate_from at texts)

-- the faults of a list of patterns (own)
abbrev pub list_faults : List ℕ → Option Data → List (Option BadAnalysis)
list_faults place value =
    unless (is_absent_or is_text_list value) WrongType place
    ∷ unless (nat_le (length (texts_in value)) 1000) TooMany place
    ∷ pattern_faults place 0 (texts_in value)

-- the faults of the table `codebase` (own)
abbrev pub codebase_faults : Option Data → List (Option BadAnalysis)
codebase_faults codebase =
    unless (is_absent_or is_table codebase) WrongType (codes "codebase")
    ∷ unless (is_absent_or is_text (at_key (codes "root") codebase)) WrongType (codes "codebase.root")
    ∷ (list_faults (codes "codebase.exclude") (at_key (codes "exclude") codebase)
    ++ list_faults (codes "codebase.skip") (at_key (codes "skip") codebase))

-- all faults of an analysis (own)
abbrev pub faults_of : Members → List (Option BadAnalysis)
faults_of t = platforms_faults t ++ codebase_faults (codebase_at t)

-- a refusal for another cause than memory gives this fault (own)
abbrev pub Tells : AnalysisFault → Option BadAnalysis → Type 0
Tells (Bad bad) fault = fault ≡ Some bad
Tells NoMemory fault = Unit {0}
