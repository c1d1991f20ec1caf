use Rattle.std.proofs.Common.{◌++◌, [], List, map, drop}
use Rattle.cb_pass.specs.States.{Waiting, Forced}
use Rattle.cb_pass.specs.inner.Trails.{state_of}
use Rattle.cb_pass.specs.inner.Moves.{Goes}
use Rattle.cb_pass.proofs.walking.force_all.Given as goal

abbrev pub invariant-texts : goal.invariant-texts
invariant-texts g l =
    (waiting : List Waiting) → Goes (g.F.Files.skeletons l.files) l.command
    (state_of l.initial.trail [] (map Forced l.text-items ++ waiting)) (state_of l.trail [] (map Forced (drop l.text-index l.text-items) ++ waiting))
