use Rattle.std.proofs.Common.{length, None}
use Rattle.cb_expand.specs.declared.mode.Mode.{Mode}
use Rattle.cb_expand.specs.Heads.{Named}
use Rattle.cb_expand.specs.inner.Rows.{signs, AreEnds}
use Rattle.cb_expand.specs.inner.Works.{IsWork, Stepped}
use Rattle.cb_expand.proofs.standing.stand_plain.Given as goal

abbrev pub invariant-tokens : goal.invariant-tokens
invariant-tokens l = record {
  row : AreEnds (signs l.work.row.tokens.items) l.work.row.ends.items;
  stood : (ms : Named) (mode : Mode) → IsWork (length ms) l.fn.work None → Stepped ms mode l.fn.work None l.work None;
}

abbrev pub decreases-tokens : goal.decreases-tokens
decreases-tokens l = length l.work.row.tokens.items
