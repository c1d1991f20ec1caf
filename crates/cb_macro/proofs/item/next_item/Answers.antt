-- The first item by what the tokens begin with.
use Rattle.std.proofs.Common.{sym}
use Rattle.cb_macro.proofs.FirstItems.{items-quoted, items-token}
use Rattle.cb_macro.proofs.item.next_item.Goals as goal

pub returns-in-Some-clause-item : goal.returns-in-Some-clause-item
returns-in-Some-clause-item c = rw c.index-tokens-0.is (items-quoted _ _ _ _ _ (sym c.in-Some.ensures))

pub returns-clause-item : goal.returns-clause-item
returns-clause-item c = rw (c.in_ok-item.ensures, c.index-tokens-0.is) (items-token _ _ _ _ c.requires (sym c.in_default.ensures))
