use Rattle.std.proofs.Common.{◌≡◌, ◌++◌}
use Rattle.std.specs.List.{filter_map, flat_map}
use Rattle.toml.specs.View.{table_view, members_view}
use Rattle.cb_analysis.specs.Tables.{entries_of}
use Rattle.cb_analysis.specs.Faults.{first_of, platform_faults}
use Rattle.cb_analysis.specs.Analyses.{platform_of}
use Rattle.cb_analysis.proofs.platforms.read_entries.Given as goal

abbrev pub invariant-platforms : goal.invariant-platforms
invariant-platforms l =
    (first_of (flat_map platform_faults (entries_of (table_view l.entries))) ≡ first_of (flat_map platform_faults (entries_of (members_view l.name-iterator))))
    × (filter_map platform_of (entries_of (table_view l.entries)) ≡ l.platforms.items ++ filter_map platform_of (entries_of (members_view l.name-iterator)))
