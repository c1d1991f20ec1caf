-- No tokens are left.
use Rattle.cb_macro.proofs.FirstItems.{parts_end}
use Rattle.cb_macro.proofs.item.read_parts.Goals as goal

pub returns : goal.returns
returns c = parts_end _ _ _ _ _ _ _ c.tokens-test.false c.tokens.invariant.read
