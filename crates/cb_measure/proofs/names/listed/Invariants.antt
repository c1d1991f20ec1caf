use Rattle.std.proofs.Common.{◌≡◌, map}
use Rattle.std.specs.Map.Iter.{deref}
use Rattle.cb_measure.proofs.names.listed.Given as goal

abbrev pub invariant-names : goal.invariant-names
invariant-names l = l.texts ≡ map deref l.yielded
