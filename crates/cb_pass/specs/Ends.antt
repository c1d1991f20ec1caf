-- What is kept of a pass (own).
use Rattle.std.specs.Prelude.{ℕ, Bool, List}
use Rattle.cb_pass.specs.declared.note.Note.{Note}
use Rattle.cb_pass.specs.Reached.{is_in}
use Rattle.cb_pass.specs.States.{Outcome}

-- for each path that was asked about, in order, the set of the nodes of its file that were reached, as words; how many
-- nodes were reached, with repeats; the paths; and the notes (own)
pub record Kept : Type 0 where
  pub rows : List (List ℕ)
  pub count : ℕ
  pub probes : List (List ℕ)
  pub notes : List Note

-- the node of the file at a path was reached: it is in the set that stands at the place of the path (own)
abbrev pub reached_in : Kept → List ℕ → ℕ → Bool
reached_in k path node = is_in k.probes k.rows path node

-- the outcome that is kept (own)
abbrev pub end_of : Kept → Outcome
end_of k = record { reached = reached_in k; count = k.count; probes = k.probes; notes = k.notes }
