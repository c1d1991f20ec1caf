use Rattle.std.proofs.Common.{◌≡◌, ◌++◌, map, length}
use Rattle.cb_paste.specs.Sets.{hides, Extends}
use Rattle.cb_paste.specs.Shades.{seen, waiting, all_shaded, AreIn}
use Rattle.cb_paste.proofs.stacking.push_moved.Given as goal

abbrev pub invariant-tokens : goal.invariant-tokens
invariant-tokens l = record {
  put : all_shaded (hides l.fn.arena l.extra) (map (seen l.fn.arena) l.tokens.items) ++ waiting l.arena l.stack.items
      ≡ all_shaded (hides l.fn.arena l.extra) (map (seen l.fn.arena) l.fn.tokens.items) ++ waiting l.fn.arena l.fn.stack.items;
  tokens : AreIn (length l.fn.arena) l.tokens.items;
  stack : AreIn (length l.arena) l.stack.items;
  kept : Extends l.fn.arena l.arena;
}

abbrev pub decreases-tokens : goal.decreases-tokens
decreases-tokens l = length l.tokens.items
