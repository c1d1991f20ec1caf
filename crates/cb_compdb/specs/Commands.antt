-- The command that an entry makes.
use Rattle.std.specs.Prelude.{ℕ, if◌then◌else◌, Bool, true, false, List, ◌++◌, drop, Option, Some, None}
use Rattle.std.specs.List.{filter_map}
use Rattle.cb_paths.specs.Paths.{folder_at, file_at}
use Rattle.cb_paths.specs.Languages.{language_of}
use Rattle.cb_paths.specs.declared.language.Language.{Language}
use Rattle.cb_include.specs.declared.op.Op.{Op}
use Rattle.cb_include.specs.declared.op.Op.TheVariants as op
use Rattle.cb_include.specs.declared.command.Command.{Command}
use Rattle.cb_compdb.specs.Options.{Effect, effects_of}
use Rattle.cb_compdb.specs.declared.form.OptionKind.{OptionKind}
use Rattle.cb_compdb.specs.declared.form.OptionKind.TheVariants.{Define, Undefine, Folder, QuoteFolder, SystemFolder, ForcedFile}
use Rattle.cb_compdb.specs.declared.entry.Entry.{Entry}
use Rattle.cb_compdb.specs.declared.made.Made.{Made}
use Rattle.cb_compdb.specs.declared.made.Made.TheVariants as made

-- whether two options are of one kind (own)
abbrev pub same_kind : OptionKind → OptionKind → Bool
same_kind Define Define = true
same_kind Undefine Undefine = true
same_kind Folder Folder = true
same_kind QuoteFolder QuoteFolder = true
same_kind SystemFolder SystemFolder = true
same_kind ForcedFile ForcedFile = true
same_kind some other = false

-- the definition of an option, if it is one (own)
abbrev pub op_by : OptionKind → List ℕ → Option Op
op_by Define text = Some (op.Define text)
op_by Undefine text = Some (op.Undef text)
op_by kind text = None

-- the text of an option of this kind (own)
abbrev pub text_for : OptionKind → Effect → Option (List ℕ)
text_for kind effect = if same_kind kind effect.0 then Some effect.1 else None

-- the folder of an option of this kind, read from the working folder; one that is refused is passed over (own)
abbrev pub folder_for : OptionKind → List ℕ → Effect → Option (List ℕ)
folder_for kind work effect = if same_kind kind effect.0 then folder_at effect.1 work else None

-- the words of `-D` and `-U` in order (GCC's manual)
unfoldable pub ops_of : List Effect → List Op
ops_of effects = filter_map (λ (effect : Effect). op_by effect.0 effect.1) effects

-- the folders of options of this kind, in order (GCC's manual)
unfoldable pub folders_of : OptionKind → List ℕ → List Effect → List (List ℕ)
folders_of kind work effects = filter_map (folder_for kind work) effects

-- the texts of options of this kind, in order (GCC's manual)
unfoldable pub texts_of : OptionKind → List Effect → List (List ℕ)
texts_of kind effects = filter_map (text_for kind) effects

-- the command of these effects for a source: headers in angle brackets are looked for in the folders of `-I` before
-- those of `-isystem` (GCC's manual, but for a folder that both name)
unfoldable pub command_of : List Effect → List ℕ → Language → List ℕ → List ℕ → Command
command_of effects main language work root = record {
  main = main;
  language = language;
  ops = ops_of effects;
  work = work;
  quote = folders_of QuoteFolder work effects;
  angle = folders_of Folder work effects ++ folders_of SystemFolder work effects;
  forced = texts_of ForcedFile effects;
  root = root;
}

-- the effects of an entry: of its words behind the first, which is the compiler (own)
abbrev pub effects_in : Entry → List Effect
effects_in entry = effects_of (drop 1 entry.words)

-- what an entry makes whose source is in a language, if it is in one (own)
abbrev pub made_as : Entry → List ℕ → List ℕ → List ℕ → Option Language → Made
made_as entry root work main None = made.Unsupported
made_as entry root work main (Some language) = made.Command (command_of (effects_in entry) main language work root)

-- what an entry makes whose file is a path below the root, if it is one (own)
abbrev pub made_at : Entry → List ℕ → List ℕ → Option (List ℕ) → Made
made_at entry root work None = made.Outside
made_at entry root work (Some main) = made_as entry root work main (language_of main)

-- what an entry makes whose directory is a folder, if it is one; the file is read from there (own)
abbrev pub made_in : Entry → List ℕ → Option (List ℕ) → Made
made_in entry root None = made.Outside
made_in entry root (Some work) = made_at entry root work (file_at entry.file work root)

-- what an entry makes, where the top has this path; the directory is read from there (own)
unfoldable pub made_of : Entry → List ℕ → Made
made_of entry root = made_in entry root (folder_at entry.directory root)
