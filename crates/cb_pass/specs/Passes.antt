-- The pass of one command over files (6.10).
use Rattle.std.specs.Prelude.{◌≡◌, ℕ, Bool, true, false, List, [], ◌∷◌, ◌++◌, map, Option, Some, None, codes}
use Rattle.cb_paths.specs.declared.language.Language.{Language}
use Rattle.cb_paths.specs.declared.language.Language.TheVariants.{C, Cxx}
use Rattle.cb_tokens.specs.declared.token.TokenKind.TheVariants.{Number}
use Rattle.cb_tree.specs.Skeleton.{Bone}
use Rattle.cb_macro.specs.Definitions.{Definition}
use Rattle.cb_include.specs.declared.command.Command.{Command}
use Rattle.cb_pass.specs.declared.note.NoteKind.TheVariants as note
use Rattle.cb_pass.specs.Notes.{note_at}
use Rattle.cb_pass.specs.Macros.{Macros}
use Rattle.cb_pass.specs.Answers.{Answer, IsAnswered}
use Rattle.cb_pass.specs.States.{Frame, Waiting, Given, Forced, Main, State, Outcome, outcome}
use Rattle.cb_pass.specs.Steps.{question}
use Rattle.cb_pass.specs.Files.{Files, start_of, stepped}

-- a macro that is a number (6.10.8)
abbrev pub number_macro : List ℕ → Definition
number_macro text = record {
  is_function = false;
  parameters = [];
  is_variadic = false;
  replacement = record { kind = Number; text = text; spaced = false } ∷ [];
}

-- the macros that are defined at the start: C of 2011 (6.10.8.1), C++ of 2017 (ISO/IEC 14882:2017, 19.8)
abbrev pub first_macros : Language → Macros
first_macros C =
    (codes "__STDC__", number_macro (codes "1")) ∷ (codes "__STDC_VERSION__", number_macro (codes "201112L")) ∷ []
first_macros Cxx = (codes "__cplusplus", number_macro (codes "201703L")) ∷ []

-- what waits at the start: the words of -D and -U, the forced files, and the main file (GCC's manual, "Options
-- Controlling the Preprocessor")
abbrev pub first_waiting : Command → List Waiting
first_waiting command = map Given command.ops ++ map Forced command.forced ++ Main ∷ []

-- the state at the start: the main file is the first probe, and where it is absent, nothing is read (own)
abbrev pub start_with : Command → Option (List Bone) → State
start_with command None = record {
  frames = [];
  waiting = [];
  macros = first_macros command.language;
  once = [];
  reached = λ path node. false;
  count = 0;
  probes = command.main ∷ [];
  notes = note_at (start_of command) note.NoMain [] ∷ [];
}
start_with command (Some bones) = record {
  frames = [];
  waiting = first_waiting command;
  macros = first_macros command.language;
  once = [];
  reached = λ path node. false;
  count = 0;
  probes = command.main ∷ [];
  notes = [];
}

-- the state at the start over these files (own)
abbrev pub start : Files → Command → State
start files command = start_with command (files command.main)

-- no file is being read, and nothing waits (own)
abbrev pub is_over_in : List Frame → List Waiting → Bool
is_over_in [] [] = true
is_over_in [] (w ∷ ws) = false
is_over_in (f ∷ fs) waiting = false

-- no file is being read at a state, and nothing waits (own)
abbrev pub is_over : State → Bool
is_over s = is_over_in s.frames s.waiting

-- the steps from a state on lead to this outcome (own)
pub data Leads (files : Files) (command : Command) (end : Outcome) : State → Type 0 where
  over : {s : State} → is_over s ≡ true → outcome s ≡ end → Leads files command end s
  goes : {s : State} → is_over s ≡ false → (answer : Answer)
      → IsAnswered command.language s.macros (question s) answer
      → Leads files command end (stepped files command answer s) → Leads files command end s

-- the pass of a command over files has this outcome (own)
abbrev pub IsPass : Files → Command → Outcome → Type 0
IsPass files command end = Leads files command end (start files command)
