use Rattle.std.proofs.Common.{◌≡◌, ◌∷◌, length}
use Rattle.cb_include.specs.declared.command.Command.{Command}
use Rattle.cb_pass.specs.States.{State}
use Rattle.cb_pass.specs.Files.{Files}
use Rattle.cb_pass.specs.inner.Moves.{Goes}
use Rattle.cb_pass.proofs.open_file.OpenFile.settle.Given as goal

abbrev pub invariant-nodes : goal.invariant-nodes
invariant-nodes l =
    ((files : Files) (command : Command) (s : State)
    → Goes files command (record s { frames = l.initial.self.frame ∷ s.frames }) (record s { frames = l.self.frame ∷ s.frames }))
    × (l.self.frame.path ≡ l.initial.self.frame.path) × (l.self.place ≡ l.initial.self.place)

abbrev pub decreases-nodes : goal.decreases-nodes
decreases-nodes l = length l.self.frame.rest
