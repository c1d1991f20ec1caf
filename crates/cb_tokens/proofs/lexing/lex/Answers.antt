use Rattle.std.proofs.Common.{length, map, sym, ap, ◌∙◌, subst}
use Rattle.std.proofs.lemmas.Bool.{eqb-true}
use Rattle.std.proofs.lemmas.List.{map_push}
use Rattle.cb_lines.specs.Marks.{marks_of}
use Rattle.cb_tokens.proofs.Lines.{seen, LinesTo, lines_more, lines_all}
use Rattle.cb_tokens.proofs.Cutting.{none_left}
use Rattle.cb_tokens.proofs.lexing.lex.Goals as goal

pub lines-preserved : goal.lines-preserved
lines-preserved c =
    let ms = marks_of c.args.source.now in
    let line = c.in_ok-line.line in
    subst (λ ls. LinesTo ms ls c.read_line.new.walk) (sym (ap (map seen) c.in_ok-push.ensures.items ∙ map_push seen c.lines.lines.items line))
    (lines_more ms c.lines.walk c.read_line.new.walk (map seen c.lines.lines.items) line.tokens.items line.counted c.lines.invariant c.in_ok-line.ensures.line)

pub returns-clause-lines : goal.returns-clause-lines
returns-clause-lines c =
    lines_all (marks_of c.args.source.now) c.lines.walk (map seen c.lines.lines.items) c.lines.invariant
    (none_left c.lines.walk c.rest.result.now c.rest.ensures (eqb-true (length c.rest.result.now) 0 (sym c.is_empty.ensures ∙ c.lines-test.false)))
