use Rattle.std.proofs.Common.{◌≤◌, length}
use Rattle.cb_compdb.specs.inner.Steps.{LeadsInside}
use Rattle.cb_compdb.proofs.splitting.double.Given as goal

abbrev pub invariant-inside : goal.invariant-inside
invariant-inside l = record {
  leads : LeadsInside l.bytes l.fn.splitter l.left l.splitter;
  within : length l.left ≤ length l.bytes;
}

abbrev pub decreases-inside : goal.decreases-inside
decreases-inside l = length l.left
