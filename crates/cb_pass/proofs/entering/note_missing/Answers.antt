use Rattle.std.proofs.Common.{List, ℕ, subst, ◌∙◌}
use Rattle.cb_pass.specs.declared.note.NoteKind.TheVariants as note
use Rattle.cb_pass.specs.inner.Moves.{IsNoted}
use Rattle.cb_pass.proofs.entering.note_missing.Goals as goal

pub returns : goal.returns
returns c =
    subst (λ (d : List ℕ). IsNoted c.args.trail.now c.note.new.self (record { path = c.args.path.now; node = c.args.node }) note.Missing d)
    (c.as_slice.ensures.value ∙ c.in_ok-text.ensures) c.in_ok-note.ensures
