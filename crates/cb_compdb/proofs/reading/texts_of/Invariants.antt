use Rattle.std.proofs.Common.{◌≡◌, ◌++◌, List, ℕ, map, drop, option_map}
use Rattle.serde_json.specs.View.{view}
use Rattle.cb_compdb.specs.Databases.{texts_of}
use Rattle.cb_compdb.proofs.reading.texts_of.Given as goal

abbrev pub invariant-texts : goal.invariant-texts
invariant-texts l = texts_of (map view l.values) ≡ option_map (λ (more : List (List ℕ)). l.texts ++ more) (texts_of (map view (drop l.value-index l.values)))
