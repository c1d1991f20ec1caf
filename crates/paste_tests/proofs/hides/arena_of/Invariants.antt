use Rattle.std.proofs.Common.{◌≤◌, length}
use Rattle.paste_tests.proofs.hides.arena_of.Given as goal

abbrev pub invariant-places : goal.invariant-places
invariant-places l = l.set ≤ length l.arena
