use Rattle.std.proofs.Common.{◌≡◌, ◌≤◌, ◌+◌, ℕ, List, map, length, drop}
use Rattle.cb_paste.specs.Puts.{seen_argument}
use Rattle.cb_paste.specs.inner.Plain.{plain_all}
use Rattle.cb_paste.proofs.plain.count_all.Given as goal

abbrev pub invariant-parts : goal.invariant-parts
invariant-parts l = record {
  count : (sets : List (List ℕ)) → l.count + length (plain_all (map (seen_argument sets) l.arguments) (drop l.at l.parts))
      ≡ length (plain_all (map (seen_argument sets) l.arguments) l.parts);
  room : l.count ≤ l.room;
}
