use Rattle.std.proofs.Common.{◌≡◌, ◌-◌, ◌≤◌, map}
use Rattle.std.specs.List.{range_with_len}
use Rattle.cb_sets.specs.Tallies.{with_counted}
use Rattle.cb_sets.specs.inner.Rows.{seen, Rise}
use Rattle.cb_sets.proofs.rows.add_span.Given as goal

abbrev pub invariant-parts : goal.invariant-parts
invariant-parts l = record {
  from : l.span.first ≤ l.first;
  within : l.first ≤ l.span.last;
  rising : Rise 0 l.rows.items;
  rows : map seen l.rows.items ≡ with_counted l.used (range_with_len l.span.first (l.first - l.span.first)) (map seen l.fn.rows.items);
}

abbrev pub decreases-parts : goal.decreases-parts
decreases-parts l = l.span.last - l.first
