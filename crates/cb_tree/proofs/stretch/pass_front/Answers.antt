use Rattle.std.proofs.Common.{List, ℕ, drop, sym, ◌∙◌, subst}
use Rattle.cb_lines.specs.declared.mark.Mark.{Mark}
use Rattle.cb_lines.specs.Marks.{bytes_of}
use Rattle.cb_tokens.specs.declared.first.First.TheVariants as first
use Rattle.cb_tokens.specs.declared.token.PieceKind.TheVariants as kinds
use Rattle.cb_tokens.specs.Cut.{StandsFirst}
use Rattle.cb_tree.specs.declared.reading.Place.TheVariants.{LineStart, InLine}
use Rattle.cb_tree.specs.inner.Reads.{ReadsRun}
use Rattle.cb_tree.proofs.Runs.{run_line_end}
use Rattle.cb_tree.proofs.Rows.{bytes_behind, behind_both}
use Rattle.cb_tree.proofs.stretch.pass_front.Goals as goal

pub returns-then-begins_with_line_end-clause-goes : goal.returns-then-begins_with_line_end-clause-goes
returns-then-begins_with_line_end-clause-goes c = λ ms counted run.
    let walk : List Mark = c.args.walk.now in
    let here : StandsFirst (bytes_of (drop c.args.len walk)) (first.Piece kinds.LineEnd 1) =
    subst (λ (bs : List ℕ). StandsFirst bs (first.Piece kinds.LineEnd 1)) (c.split_at.ensures.back ∙ bytes_behind c.args.len c.rest.result.now walk c.rest.ensures) (c.begins_with_line_end.ensures.0 c.if-begins_with_line_end.true) in
    subst (λ (rest : List Mark). ReadsRun ms LineStart counted rest) (behind_both c.args.len 1 walk ∙ sym c.pass_row.ensures)
    (run_line_end ms InLine counted (drop c.args.len walk) 1 here run)
