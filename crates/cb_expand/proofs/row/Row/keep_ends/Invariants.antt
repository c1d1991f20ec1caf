use Rattle.std.proofs.Common.{◌≡◌, length}
use Rattle.cb_expand.specs.inner.Rows.{signs, AreEnds}
use Rattle.cb_expand.proofs.row.Row.keep_ends.Given as goal

abbrev pub invariant-loop-height : goal.invariant-loop-height
invariant-loop-height l =
    (l.self.tokens ≡ l.initial.self.tokens) × (length l.self.ends.items ≡ l.height) × AreEnds (signs l.self.tokens.items) l.self.ends.items
