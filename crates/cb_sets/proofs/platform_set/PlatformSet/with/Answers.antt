use Rattle.std.proofs.Common.{◌<◌, refl, arith}
use Rattle.cb_sets.proofs.Held.{with_is}
use Rattle.cb_sets.proofs.platform_set.PlatformSet.with.Goals as goal

pub returns : goal.returns
returns c =
    let small : c.args.self.bits < 4294967296 = omega arith in
    with_is c.rising_sets.ensures.same c.rising_sets.ensures.with_line c.rising_sets.ensures.with_line_rises c.args.self _ c.args.platform small refl c.requires.some c.requires.within
