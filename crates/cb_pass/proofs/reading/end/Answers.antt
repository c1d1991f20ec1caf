use Rattle.std.proofs.Common.{[]}
use Rattle.cb_pass.specs.declared.note.NoteKind.TheVariants as note
use Rattle.cb_pass.proofs.Trailing.{noted_there}
use Rattle.cb_pass.proofs.Visiting.{ends}
use Rattle.cb_pass.proofs.reading.end.Goals as goal

pub returns-clause-ended : goal.returns-clause-ended
returns-clause-ended c = λ files command fs waiting.
    ends files command c.args.trail.now c.note.new.self c.args.file.now.frame c.args.kind c.requires.next c.requires.full
    (noted_there _ _ _ _ _ _ note.Budget [] c.path.ensures c.node.ensures c.in_ok-note.ensures) fs waiting
