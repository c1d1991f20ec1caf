use Rattle.std.proofs.Common.{◌-◌, List}
use Prim.Native.Nat.{suc}
use Rattle.cb_pass.specs.declared.limits.TheConstants.{NODE_LIMIT}
use Rattle.cb_pass.specs.States.{Waiting}
use Rattle.cb_pass.specs.inner.Trails.{ArePlaced, frames_of, state_of}
use Rattle.cb_pass.specs.inner.Moves.{Goes}
use Rattle.cb_pass.proofs.reading.read.Given as goal

abbrev pub invariant-nodes : goal.invariant-nodes
invariant-nodes g l =
    ((waiting : List Waiting) → Goes (g.F.Files.skeletons l.files) l.command
    (state_of l.initial.trail (frames_of l.initial.opened) waiting) (state_of l.trail (frames_of l.opened) waiting))
    × ArePlaced l.trail.probes l.opened

abbrev pub decreases-nodes : goal.decreases-nodes
decreases-nodes g l = suc NODE_LIMIT - l.trail.count
