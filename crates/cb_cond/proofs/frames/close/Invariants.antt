use Rattle.std.proofs.Common.{◌≡◌, ◌-◌, ◌≤◌, length, drop}
use Rattle.cb_cond.specs.inner.Frames.{closed}
use Rattle.cb_cond.proofs.frames.close.Given as goal

abbrev pub invariant-frames : goal.invariant-frames
invariant-frames l = record {
  value : closed l.level (drop l.top l.frames) l.operand ≡ closed l.initial.level (drop l.initial.top l.initial.frames) l.initial.operand;
  above : l.initial.top ≤ l.top;
  within : l.top ≤ length l.frames;
}

abbrev pub decreases-frames : goal.decreases-frames
decreases-frames l = length l.frames - l.top
