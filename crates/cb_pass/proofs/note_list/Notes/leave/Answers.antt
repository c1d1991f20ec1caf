use Rattle.std.proofs.Common.{◌∙◌}
use Rattle.cb_pass.proofs.SameNotes.{same_noted, noted_as}
use Rattle.cb_pass.proofs.note_list.Notes.leave.Goals as goal

pub returns : goal.returns
returns c =
    c.in_ok-insert.ensures.keys
    ∙ (same_noted _ c.self.inside.notes.keys
    ∙ noted_as _ _ _ _ _ _ _ _ c.in_ok-path.ensures c.in_ok-detail.ensures c.self.view_is)
