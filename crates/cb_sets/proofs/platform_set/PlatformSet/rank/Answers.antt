use Rattle.std.proofs.Common.{◌<◌, arith}
use Rattle.cb_sets.proofs.Held.{known_bits}
use Rattle.cb_sets.proofs.platform_set.PlatformSet.rank.Goals as goal

pub returns : goal.returns
returns c =
    let small : c.args.self.bits < 4294967296 = omega arith in
    let k = (known_bits c.args.self small).rank in
    omega (arith, k)
