use Rattle.std.proofs.Common.{[], subst}
use Rattle.cb_pass.specs.declared.note.NoteKind.TheVariants as note
use Rattle.cb_pass.specs.Files.{start_of}
use Rattle.cb_pass.specs.Passes.{first_waiting}
use Rattle.cb_pass.specs.inner.Trails.{Findings, state_of}
use Rattle.cb_pass.specs.inner.Moves.{Goes, IsNoted}
use Rattle.cb_pass.proofs.Acting.{each_ok}
use Rattle.cb_pass.proofs.Ending.{whole, absent}
use Rattle.cb_pass.proofs.walking.walk.Goals as goal

pub returns-in-Some : goal.returns-in-Some
returns-in-Some g c =
    let files = g.F.Files.skeletons c.args.files.now in
    let command = c.args.command.now in
    let new = c.begin.new.trail in
    each_ok c.begin.result _ _ c.begin.ensures
    (λ moved end ends. whole files command new end _ c.in-Some.ensures
    (subst (λ (t : Findings). Goes files command (state_of t [] (first_waiting command)) (state_of new [] [])) c.requires moved) ends)

pub returns-in_ok-note-in-None : goal.returns-in_ok-note-in-None
returns-in_ok-note-in-None g c = λ end ends.
    let files = g.F.Files.skeletons c.args.files.now in
    let command = c.args.command.now in
    absent files command c.note.new.self end c.in-None.ensures
    (subst (λ (t : Findings). IsNoted t c.note.new.self (start_of command) note.NoMain []) c.requires c.in_ok-note-in-None.ensures) ends
