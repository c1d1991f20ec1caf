use Rattle.std.proofs.Common.{sym, ◌∙◌}
use Rattle.cb_pass.proofs.Meeting.{notes}
use Rattle.cb_pass.proofs.entering.enter_found.Goals as goal

pub returns-then-is_too_deep : goal.returns-then-is_too_deep
returns-then-is_too_deep g c =
    notes (g.F.Files.skeletons c.args.files.now) (record { path = c.args.path.now; node = c.args.node }) c.args.depth c.args.found c.args.trail.now c.note.new.self
    (sym c.is_read_once.ensures ∙ c.if-is_read_once.false) (sym c.is_too_deep.ensures ∙ c.if-is_too_deep.true) c.in_ok-note.ensures
