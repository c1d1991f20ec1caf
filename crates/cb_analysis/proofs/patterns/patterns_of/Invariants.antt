use Rattle.std.proofs.Common.{◌≡◌, ◌+◌, ◌++◌, true, map, length}
use Rattle.std.specs.List.{list_all, filter_map}
use Rattle.toml.specs.Data.{as_str}
use Rattle.toml.specs.View.{view}
use Rattle.cb_analysis.specs.Tables.{is_text}
use Rattle.cb_analysis.specs.Faults.{first_of, pattern_faults}
use Rattle.cb_analysis.specs.Patterns.{pattern_of}
use Rattle.cb_analysis.proofs.patterns.patterns_of.Given as goal

abbrev pub invariant-patterns : goal.invariant-patterns
invariant-patterns l =
    (list_all is_text (map view l.left) ≡ true)
    × (l.at + length l.left ≡ length l.texts)
    × (first_of (pattern_faults l.place 0 (filter_map as_str (map view l.texts))) ≡ first_of (pattern_faults l.place l.at (filter_map as_str (map view l.left))))
    × (map pattern_of (filter_map as_str (map view l.texts)) ≡ l.patterns.items ++ map pattern_of (filter_map as_str (map view l.left)))

abbrev pub decreases-patterns : goal.decreases-patterns
decreases-patterns l = length l.left
