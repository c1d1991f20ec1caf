-- What the words of a compiler do, as far as preprocessing depends on them (GCC's manual, "Options Controlling the
-- Preprocessor" and "Options for Directory Search").
use Rattle.std.specs.Prelude.{ℕ, ◌==◌, ◌||◌, if◌then◌else◌, Bool, List, [], ◌∷◌, bytes_eq, codes, Option, Some, None}
use Rattle.std.specs.List.{list_any}
use Rattle.cb_compdb.specs.declared.form.OptionKind.{OptionKind}
use Rattle.cb_compdb.specs.declared.form.OptionKind.TheVariants.{Define, Undefine, Folder, QuoteFolder, SystemFolder, ForcedFile}

-- what a word is: an option with its text, an option whose text is the next word, an option whose next word is passed
-- over too, or anything else, which is passed over (own)
pub data WordForm : Type 0 where
  with_text : OptionKind → List ℕ → WordForm
  takes_next : OptionKind → WordForm
  skips_next : WordForm
  other : WordForm

-- what stands in a text behind a front, if it begins so (own)
abbrev pub behind : List ℕ → List ℕ → Option (List ℕ)
behind [] text = Some text
behind (b ∷ bs) [] = None
behind (b ∷ bs) (c ∷ cs) = if b == c then behind bs cs else None

-- an option that may have its text in the same word (GCC's manual)
abbrev pub joined_form : OptionKind → Option (List ℕ) → WordForm → WordForm
joined_form kind None otherwise = otherwise
joined_form kind (Some []) otherwise = takes_next kind
joined_form kind (Some (b ∷ bs)) otherwise = with_text kind (b ∷ bs)

-- the options that a name of a file, a language, a target or a folder follows, which is not looked at (GCC's manual)
unfoldable pub is_naming : List ℕ → Bool
is_naming word =
    list_any (λ name. bytes_eq word name)
    (codes "-o" ∷ codes "-x" ∷ codes "-MF" ∷ codes "-MT" ∷ codes "-MQ" ∷ codes "-idirafter" ∷ [])

-- the options that hand the next word on to another program (GCC's, Clang's and NVIDIA's manuals)
unfoldable pub is_handing : List ℕ → Bool
is_handing word =
    list_any (λ name. bytes_eq word name)
    (codes "-Xclang" ∷ codes "-Xcompiler" ∷ codes "-Xlinker" ∷ codes "-Xpreprocessor" ∷ codes "-Xassembler" ∷ [])

-- what a word is that is an option as a whole (GCC's manual)
abbrev pub whole_form : List ℕ → WordForm
whole_form word =
    if bytes_eq word (codes "-include") then takes_next ForcedFile
    else (if is_naming word || is_handing word then skips_next else other)

-- what a word is (GCC's manual, and own)
unfoldable pub form_of : List ℕ → WordForm
form_of word =
    joined_form Define (behind (codes "-D") word)
    (joined_form Undefine (behind (codes "-U") word)
    (joined_form Folder (behind (codes "-I") word)
    (joined_form QuoteFolder (behind (codes "-iquote") word)
    (joined_form SystemFolder (behind (codes "-isystem") word) (whole_form word)))))

-- what an option does, with its text (own)
abbrev pub Effect : Type 0
Effect = OptionKind × List ℕ

-- the effects of the last word; an option that lacks its next word has none (own)
abbrev pub last_effects : WordForm → List Effect
last_effects (with_text kind text) = (kind, text) ∷ []
last_effects (takes_next kind) = []
last_effects skips_next = []
last_effects other = []

-- the effects from a word on: those from the next word on, or from the one behind it, follow its own (own)
abbrev pub effects_by : WordForm → List ℕ → List Effect → List Effect → List Effect
effects_by (with_text kind text) next from_next from_behind = (kind, text) ∷ from_next
effects_by (takes_next kind) next from_next from_behind = (kind, next) ∷ from_behind
effects_by skips_next next from_next from_behind = from_behind
effects_by other next from_next from_behind = from_next

-- the effects of words that are read from the left (own)
unfoldable pub effects_of : List (List ℕ) → List Effect
effects_of [] = []
effects_of (word ∷ []) = last_effects (form_of word)
effects_of (word ∷ next ∷ words) = effects_by (form_of word) next (effects_of (next ∷ words)) (effects_of words)
