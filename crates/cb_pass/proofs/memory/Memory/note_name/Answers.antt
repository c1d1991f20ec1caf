use Rattle.cb_pass.proofs.memory.Memory.note_name.Goals as goal

pub returns-in_ok-note-in-None : goal.returns-in_ok-note-in-None
returns-in_ok-note-in-None c = λ s. rw c.in-None.is (c.in_ok-note-in-None.ensures s)
