use Rattle.std.proofs.Common.{◌≡◌, ◌++◌, length}
use Rattle.cb_compdb.specs.Options.{effects_of}
use Rattle.cb_compdb.specs.Commands.{ops_of}
use Rattle.cb_compdb.proofs.made.ops_of.Given as goal

abbrev pub invariant-effects : goal.invariant-effects
invariant-effects l = ops_of (effects_of l.words) ≡ l.ops ++ ops_of (effects_of l.left)

abbrev pub decreases-effects : goal.decreases-effects
decreases-effects l = length l.left
