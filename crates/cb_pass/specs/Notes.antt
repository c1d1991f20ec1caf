-- What a pass notes: each thing once, in order of first occurrence (own).
use Rattle.std.specs.Prelude.{ℕ, ◌==◌, ◌&&◌, Bool, if◌then◌else◌, List, [], ◌∷◌, ◌++◌}
use Rattle.std.specs.List.{list_any}
use Rattle.std.specs.Str.{bytes_eq}
use Rattle.cb_pass.specs.declared.note.NoteKind.{NoteKind}
use Rattle.cb_pass.specs.declared.note.Note.{Note}
use Rattle.cb_pass.specs.Kinds.{note_number}

-- two notes of one place that tell the same (own)
abbrev pub same_note : Note → Note → Bool
same_note a b =
    bytes_eq a.path b.path
    && ((a.node == b.node) && ((note_number a.kind == note_number b.kind) && bytes_eq a.detail b.detail))

-- a node of a file; 0 stands for the start of a command (own)
pub record Place : Type 0 where
  pub path : List ℕ
  pub node : ℕ

-- a note at a place (own)
abbrev pub note_at : Place → NoteKind → List ℕ → Note
note_at place kind detail = record { path = place.path; node = place.node; kind = kind; detail = detail }

-- the notes with one more, unless it is there (own)
unfoldable pub noted : Note → List Note → List Note
noted note notes = if list_any (same_note note) notes then notes else notes ++ note ∷ []
