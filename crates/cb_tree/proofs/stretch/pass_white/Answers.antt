use Rattle.std.proofs.Common.{List, [], ℕ, refl, sym, subst}
use Rattle.cb_lines.specs.declared.mark.Mark.{Mark}
use Rattle.cb_tokens.specs.declared.first.First.TheVariants as first
use Rattle.cb_tokens.specs.declared.token.PieceKind.TheVariants as kinds
use Rattle.cb_tokens.specs.Cut.{StandsFirst}
use Rattle.cb_tree.specs.inner.Reads.{Reads, ReadsRun}
use Rattle.cb_tree.proofs.Runs.{run_white}
use Rattle.cb_tree.proofs.ReadsMore.{reads_blank}
use Rattle.cb_tree.proofs.stretch.pass_white.Goals as goal

pub returns-then-white-gt0-clause-goes : goal.returns-then-white-gt0-clause-goes
returns-then-white-gt0-clause-goes c = λ ms place counted run.
    subst (λ (rest : List Mark). ReadsRun ms place counted rest) (sym c.pass_row.ensures)
    (run_white ms place counted c.args.walk.now c.white_front-white.result
    (subst (λ (bs : List ℕ). StandsFirst bs (first.Piece kinds.White c.white_front-white.result)) c.rest.ensures (c.white_front-white.ensures.piece c.if-white-gt0.true)) run)

pub returns-then-white-gt0-clause-blank : goal.returns-then-white-gt0-clause-blank
returns-then-white-gt0-clause-blank c =
    subst (λ (rest : List Mark). Reads c.args.walk.now [] rest) (sym c.pass_row.ensures)
    (reads_blank c.args.walk.now kinds.White c.white_front-white.result
    (subst (λ (bs : List ℕ). StandsFirst bs (first.Piece kinds.White c.white_front-white.result)) c.rest.ensures (c.white_front-white.ensures.piece c.if-white-gt0.true)) refl)
