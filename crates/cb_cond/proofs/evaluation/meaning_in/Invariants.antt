use Rattle.std.proofs.Common.{◌≡◌, ℕ, ◌≤◌, length, take, drop, Some}
use Rattle.cb_cond.specs.inner.Rests.{left}
use Rattle.cb_cond.specs.Symbols.{symbols}
use Rattle.cb_cond.specs.inner.Frames.{held_of}
use Rattle.cb_cond.proofs.Reading.{run}
use Rattle.cb_cond.proofs.Image.{image}
use Rattle.cb_cond.proofs.Along.{start}
use Rattle.cb_cond.proofs.Position.{IsAt}
use Rattle.cb_cond.proofs.evaluation.meaning_in.Given as goal

-- the first tokens are read, and these frames wait
abbrev pub invariant-tokens : goal.invariant-tokens
invariant-tokens l =
    (i : ℕ) × IsAt (left l.fn.rest) i (left l.rest)
    × (image (run (take i (symbols l.language (left l.fn.rest))) start) ≡ Some (record { frames = drop l.position.top l.frames; held = held_of l.position }))
    × (l.position.top ≤ length l.frames)

abbrev pub decreases-tokens : goal.decreases-tokens
decreases-tokens l = length (left l.rest)
