use Rattle.std.proofs.Common.{◌≡◌, ◌++◌, length}
use Rattle.cb_compdb.specs.Options.{effects_of}
use Rattle.cb_compdb.specs.Commands.{folders_of}
use Rattle.cb_compdb.proofs.made.add_folders.Given as goal

abbrev pub invariant-effects : goal.invariant-effects
invariant-effects l =
    l.fn.folders ++ folders_of l.kind l.work (effects_of l.words) ≡ l.folders ++ folders_of l.kind l.work (effects_of l.left)

abbrev pub decreases-effects : goal.decreases-effects
decreases-effects l = length l.left
