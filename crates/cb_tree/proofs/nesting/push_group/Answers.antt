use Rattle.std.proofs.Common.{◌∷◌, []}
use Rattle.cb_tree.proofs.Nested.{one_group}
use Rattle.cb_tree.proofs.nesting.push_group.Goals as goal

pub returns : goal.returns
returns c = record { more = _ ∷ []; reads = one_group c.args.head c.args.parts; pushed = c.in_ok-push.ensures.items }
