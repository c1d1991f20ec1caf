use Rattle.std.proofs.Common.{◌<◌, refl, arith}
use Rattle.cb_sets.proofs.Held.{union_is}
use Rattle.cb_sets.proofs.platform_set.PlatformSet.union.Goals as goal

pub returns : goal.returns
returns c =
    let sa : c.args.self.bits < 4294967296 = omega arith in
    let sb : c.args.other.bits < 4294967296 = omega arith in
    union_is c.rising_sets.ensures.same c.rising_sets.ensures.union_of c.rising_sets.ensures.union_of_rises c.args.self c.args.other _ sa sb refl
