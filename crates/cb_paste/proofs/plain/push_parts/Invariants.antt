use Rattle.std.proofs.Common.{◌≡◌, ◌≤◌, ◌++◌, map, length, take}
use Rattle.cb_paste.specs.Sets.{hides, Extends}
use Rattle.cb_paste.specs.Shades.{waiting, all_shaded, AreIn}
use Rattle.cb_paste.specs.Puts.{seen_argument}
use Rattle.cb_paste.specs.inner.Uses.{is_used_plainly, Kept}
use Rattle.cb_paste.specs.inner.Plain.{plain_all}
use Rattle.cb_paste.proofs.plain.push_parts.Given as goal

abbrev pub invariant-parts : goal.invariant-parts
invariant-parts l = record {
  put : all_shaded (hides l.fn.arena l.extra) (plain_all (map (seen_argument l.fn.arena) l.fn.arguments) (take l.at l.parts)) ++ waiting l.arena l.stack.items
      ≡ all_shaded (hides l.fn.arena l.extra) (plain_all (map (seen_argument l.fn.arena) l.fn.arguments) l.parts) ++ waiting l.fn.arena l.fn.stack.items;
  at : l.at ≤ length l.parts;
  others : Kept (is_used_plainly (take l.at l.parts)) l.fn.arguments l.arguments;
  stack : AreIn (length l.arena) l.stack.items;
  kept : Extends l.fn.arena l.arena;
}

abbrev pub decreases-parts : goal.decreases-parts
decreases-parts l = l.at
