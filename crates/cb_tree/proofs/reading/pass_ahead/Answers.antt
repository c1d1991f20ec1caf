use Rattle.cb_lines.specs.Marks.{bytes_of}
use Rattle.cb_tree.proofs.Rows.{longer}
use Rattle.cb_tree.proofs.reading.pass_ahead.Goals as goal

pub pass_row-requires-clause-full : goal.pass_row-requires-clause-full
pass_row-requires-clause-full c = longer (bytes_of c.args.walk.now) c.args.piece.kind c.args.piece.len c.requires

pub pass_row-requires-in-LineEnd-clause-full : goal.pass_row-requires-in-LineEnd-clause-full
pass_row-requires-in-LineEnd-clause-full c = longer (bytes_of c.args.walk.now) c.args.piece.kind c.args.piece.len c.requires
