use Rattle.std.proofs.Common.{map, take}
use Rattle.serde_json.specs.View.{view}
use Rattle.cb_compdb.specs.Databases.{AreEntries}
use Rattle.cb_compdb.proofs.reading.entries_of.Given as goal

abbrev pub invariant-items : goal.invariant-items
invariant-items l = AreEntries (map view (take l.place l.values)) l.items.items
