use Rattle.std.proofs.Common.{ℕ, List, ◌∷◌, length}
use Rattle.std.specs.Prelude.{reverse}
use Rattle.cb_include.specs.declared.command.Command.{Command}
use Rattle.cb_pass.specs.States.{Waiting}
use Rattle.cb_pass.specs.Files.{Files}
use Rattle.cb_pass.specs.inner.Trails.{Findings, frames_of, state_of, ArePlaced}
use Rattle.cb_pass.specs.inner.Moves.{Goes}
use Rattle.cb_pass.proofs.open_files.OpenFiles.settle.Given as goal

abbrev pub invariant-files : goal.invariant-files
invariant-files l =
    ((files : Files) (command : Command) (t : Findings) (waiting : List Waiting)
    → Goes files command (state_of t (frames_of l.fn.self) waiting)
    (state_of t (frames_of (l.self-inside.innermost ∷ reverse l.self-inside.around.items)) waiting))
    × ((paths : List (List ℕ)) → ArePlaced paths l.fn.self → ArePlaced paths (l.self-inside.innermost ∷ reverse l.self-inside.around.items))

abbrev pub decreases-files : goal.decreases-files
decreases-files l = length l.self-inside.around.items
