use Rattle.std.proofs.Common.{◌≡◌, ◌≤◌, ◌*◌}
use Rattle.std.specs.List.{range_with_len, sum_by}
use Rattle.cb_paths.specs.Grid.{share, units}
use Rattle.cb_sets.specs.Tallies.{lines_of}
use Rattle.cb_sets.proofs.covering.sum_of_shares.Given as goal

abbrev pub invariant-platforms : goal.invariant-platforms
invariant-platforms l = record {
  sum : l.sum ≡ sum_by (λ platform. share (lines_of platform l.map) l.total) (range_with_len 1 l.place);
  within : l.sum ≤ l.place * units;
}
