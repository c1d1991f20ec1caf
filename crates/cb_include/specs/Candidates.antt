-- Where a header is looked for.
use Rattle.std.specs.Prelude.{ℕ, if◌then◌else◌, Bool, true, false, List, ◌∷◌, [], ◌++◌, Option, None, Some}
use Rattle.std.specs.List.{filter_map}
use Rattle.std.specs.Option.{option_to_list}
use Rattle.cb_paths.specs.Paths.{is_absolute, file_at, folder_of}
use Rattle.cb_include.specs.declared.command.Command.{Command}
use Rattle.cb_include.specs.declared.header.Header.{Header}
use Rattle.cb_include.specs.declared.header.Origin.{Origin}
use Rattle.cb_include.specs.declared.header.Origin.TheVariants.{Start, File}

-- the source that includes; none at the start of a command (own)
abbrev pub including : Origin → Option (List ℕ)
including Start = None
including (File path) = Some path.now

-- the folder of the source that includes, unless it is too long; at the start of a command the one that the compiler
-- works in (GCC's manual, "Search Path", and "Options Controlling the Preprocessor" at -include)
abbrev pub nearest : Command → Option (List ℕ) → List (List ℕ)
nearest command None = command.work ∷ []
nearest command (Some path) = option_to_list (folder_of command.root path)

-- the folders in which a header is looked for, in order: all of them where it stands between quotes, those of -I and
-- -isystem where it stands between `<` and `>` (GCC's manual, "Search Path" and "Options for Directory Search")
abbrev pub folders : Command → Option (List ℕ) → Bool → List (List ℕ)
folders command from true = command.angle
folders command from false = nearest command from ++ command.quote ++ command.angle

-- the paths below the root that a text names in folders, without those where it names none (own)
abbrev pub named_in : Command → List ℕ → List (List ℕ) → List (List ℕ)
named_in command text bases = filter_map (λ base. file_at text base command.root) bases

-- the paths at which a header may be found, in order; a header that begins with a slash has at most the one that it
-- names (ISO/IEC 9899:2011, 6.10.2, leaves the places to the implementation; that only paths below the root count is
-- our own)
abbrev pub candidates : Command → Option (List ℕ) → Header → List (List ℕ)
candidates command from header =
    named_in command header.text
    (if is_absolute header.text then command.root ∷ [] else folders command from header.angle)
