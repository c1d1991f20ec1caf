use Rattle.std.proofs.Common.{length, map}
use Rattle.cb_lines.specs.Marks.{marks_of}
use Rattle.cb_tokens.proofs.Lines.{seen, LinesTo}
use Rattle.cb_tokens.proofs.lexing.lex.Given as goal

abbrev pub invariant-lines : goal.invariant-lines
invariant-lines l = LinesTo (marks_of l.source) (map seen l.lines.items) l.walk

abbrev pub decreases-lines : goal.decreases-lines
decreases-lines l = length l.walk
