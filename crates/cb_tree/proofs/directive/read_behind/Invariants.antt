use Rattle.std.proofs.Common.{◌+◌, ◌≤◌, Some, length}
use Rattle.cb_tree.specs.inner.Reads.{DirectiveGoes}
use Rattle.cb_tree.proofs.directive.read_behind.Given as goal

abbrev pub invariant-pieces : goal.invariant-pieces
invariant-pieces l =
    DirectiveGoes l.fn.spaced l.fn.counted l.fn.walk l.fn.tokens.items l.tokens.items (Some l.spaced) l.counted l.walk
    × (length l.walk ≤ length l.fn.walk) × (length l.counted + length l.walk ≤ length l.fn.counted + length l.fn.walk)
    × (length l.tokens.items + length l.walk ≤ length l.fn.tokens.items + length l.fn.walk)

abbrev pub decreases-pieces : goal.decreases-pieces
decreases-pieces l = length l.walk
