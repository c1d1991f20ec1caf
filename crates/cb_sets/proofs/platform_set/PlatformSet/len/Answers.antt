use Rattle.std.proofs.Common.{◌<◌, arith}
use Rattle.cb_sets.proofs.Held.{count_of}
use Rattle.cb_sets.proofs.platform_set.PlatformSet.len.Goals as goal

pub returns : goal.returns
returns c = (let small : c.args.self.now.bits < 4294967296 = omega arith in count_of c.args.self.now small)
