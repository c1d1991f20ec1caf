-- Where a pass stands.
use Rattle.std.specs.Prelude.{ℕ, Bool, List}
use Rattle.cb_tree.specs.Skeleton.{Bone}
use Rattle.cb_include.specs.declared.op.Op.{Op}
use Rattle.cb_pass.specs.declared.section.Section.{Section}
use Rattle.cb_pass.specs.declared.note.Note.{Note}
use Rattle.cb_pass.specs.Macros.{Macros}

-- a file that is being read: its path, the number of its next node, what follows from that on, its depth, and its open
-- sections, the innermost first (own)
pub record Frame : Type 0 where
  pub path : List ℕ
  pub node : ℕ
  pub rest : List Bone
  pub depth : ℕ
  pub sections : List Section

-- what a command still has to begin: a word of -D or -U, a forced file, or the main file (own)
pub data Waiting : Type 0 where
  Given : Op → Waiting
  Forced : List ℕ → Waiting
  Main : Waiting

-- the files that are being read, the innermost first; what waits; the macros; the paths that are not entered again;
-- whether a node of a path was reached, and how many nodes were, with repeats; the paths that were asked about; and
-- the notes (own)
pub record State : Type 0 where
  pub frames : List Frame
  pub waiting : List Waiting
  pub macros : Macros
  pub once : List (List ℕ)
  pub reached : List ℕ → ℕ → Bool
  pub count : ℕ
  pub probes : List (List ℕ)
  pub notes : List Note

-- what comes of a pass (own)
pub record Outcome : Type 0 where
  pub reached : List ℕ → ℕ → Bool
  pub count : ℕ
  pub probes : List (List ℕ)
  pub notes : List Note

-- what a state shows at the end (own)
abbrev pub outcome : State → Outcome
outcome s = record { reached = s.reached; count = s.count; probes = s.probes; notes = s.notes }
