-- What a pass knows apart from where it stands.
use Rattle.std.specs.Prelude.{ℕ, List}
use Rattle.cb_macro.specs.Definitions.{Definition}
use Rattle.cb_pass.specs.declared.note.Note.{Note}
use Rattle.cb_pass.specs.States.{State}

-- the macros, the paths that are not entered again, and the notes
pub record Memo : Type 0 where
  pub macros : List (List ℕ × Definition)
  pub once : List (List ℕ)
  pub notes : List Note

-- a state with these
abbrev pub with_memo : Memo → State → State
with_memo m s = record s { macros = m.macros; once = m.once; notes = m.notes }
