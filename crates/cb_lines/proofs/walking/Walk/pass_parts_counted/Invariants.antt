use Rattle.std.proofs.Common.{◌≡◌, ◌-◌, ◌≤◌, take, drop}
use Rattle.cb_lines.specs.Lines.{with_lines}
use Rattle.cb_lines.proofs.walking.Walk.pass_parts_counted.Given as goal

abbrev pub invariant-parts : goal.invariant-parts
invariant-parts l = record {
  within : l.left ≤ l.count;
  passed : l.self ≡ drop (l.count - l.left) l.initial.self;
  counted : l.lines ≡ with_lines (take (l.count - l.left) l.initial.self) l.initial.lines;
}

abbrev pub decreases-parts : goal.decreases-parts
decreases-parts l = l.left
