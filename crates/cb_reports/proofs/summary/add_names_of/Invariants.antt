use Rattle.std.proofs.Common.{◌≡◌, ◌≤◌, ◌++◌, map, filter, length}
use Rattle.std.specs.List.{range_with_len}
use Rattle.cb_lines.specs.Lines.{has_line}
use Rattle.cb_sets.specs.Sets.{members}
use Rattle.cb_reports.specs.Words.{listed, platform_name}
use Rattle.cb_reports.proofs.summary.add_names_of.Given as goal

abbrev pub invariant-loop-place : goal.invariant-loop-place
invariant-loop-place l = record {
  text : l.text ≡ l.initial.text ++ listed (map (platform_name l.names) (filter (has_line (members l.set)) (range_with_len 1 l.place)));
  count : l.count ≡ length (filter (has_line (members l.set)) (range_with_len 1 l.place));
  few : l.count ≤ l.place;
}
