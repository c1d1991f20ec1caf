use Rattle.std.proofs.Common.{List, ℕ, ap, ◌∙◌}
use Rattle.cb_pass.specs.declared.note.NoteKind.TheVariants as note
use Rattle.cb_pass.specs.Steps.{with_note}
use Rattle.cb_pass.specs.inner.Memos.{with_memo}
use Rattle.cb_pass.proofs.memory.Memory.note_reply.Goals as goal

pub returns-in_ok-note-in-Faulty : goal.returns-in_ok-note-in-Faulty
returns-in_ok-note-in-Faulty c = λ s.
    rw c.in-Faulty.is (c.in_ok-note-in-Faulty.ensures s
    ∙ ap (λ (d : List ℕ). with_note (record { path = c.args.path.now; node = c.args.node }) note.BadCondition d (with_memo c.args.self.now s)) (c.as_bytes.ensures.value ∙ c.name.ensures))

pub returns-in_ok-note-in-Nameless : goal.returns-in_ok-note-in-Nameless
returns-in_ok-note-in-Nameless c = λ s. rw c.in-Nameless.is (c.in_ok-note-in-Nameless.ensures s)

pub returns-in_ok-note-in-Long : goal.returns-in_ok-note-in-Long
returns-in_ok-note-in-Long c = λ s. rw c.in-Long.is (c.in_ok-note-in-Long.ensures s)
