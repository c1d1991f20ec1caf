use Rattle.std.proofs.Common.{refl}
use Rattle.cb_sets.proofs.Held.{none_of_zero}
use Rattle.cb_sets.proofs.platform_set.PlatformSet.none.Goals as goal

pub returns : goal.returns
returns c = none_of_zero (record { bits = 0 }) refl
