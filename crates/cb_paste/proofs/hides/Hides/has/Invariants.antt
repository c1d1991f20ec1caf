use Rattle.std.proofs.Common.{◌≡◌, ◌≤◌, length}
use Rattle.cb_paste.specs.Sets.{hides}
use Rattle.cb_paste.proofs.hides.Hides.has.Given as goal

abbrev pub invariant-nodes : goal.invariant-nodes
invariant-nodes l = record {
  within : l.node ≤ length l.self;
  same : hides l.self l.node l.rest ≡ hides l.self l.set l.place;
}

abbrev pub decreases-nodes : goal.decreases-nodes
decreases-nodes l = l.node
