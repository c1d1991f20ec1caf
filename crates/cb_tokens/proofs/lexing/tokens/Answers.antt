use Rattle.cb_lines.specs.Marks.{marks_of}
use Rattle.cb_tokens.proofs.OneCut.{only_open}
use Rattle.cb_tokens.proofs.lexing.tokens.Goals as goal

pub returns-clause-only_open : goal.returns-clause-only_open
returns-clause-only_open c = only_open (marks_of c.args.source.now) c.lex.result c.lex.ensures.lines c.lex.ensures.open_comment
