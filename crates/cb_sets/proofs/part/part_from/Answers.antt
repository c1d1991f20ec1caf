use Rattle.std.proofs.Common.{◌+◌, arith}
use Rattle.cb_sets.specs.Sets.{members}
use Rattle.cb_sets.proofs.Users.{user_added}
use Rattle.cb_sets.proofs.part.part_from.Goals as goal

pub platforms-preserved : goal.platforms-preserved
platforms-preserved c = record {
  from = omega arith;
  within = omega arith;
  alike = λ line le ends.
      user_added c.args.used.now c.platforms.place (c.platforms.place + 1) line c.index-used-place.result c.alike_from-stretch.result.is_held (members c.platforms.set) (members c.with_user-set.result)
      (omega arith) c.index-used-place.is (c.alike_from-stretch.ensures.alike line le ends) (c.platforms.invariant.alike line le (omega arith)) (omega arith) c.with_user-set.ensures;
}
