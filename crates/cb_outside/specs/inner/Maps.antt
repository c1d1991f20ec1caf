-- Maps in memory. No public clause names these words.
use Rattle.std.specs.Prelude.{ℕ, List, map, Vec}
use Rattle.cb_outside.specs.Tables.{Texts, Rise, Tables}

-- the texts of a map's entries
abbrev pub texts_of : {A : Type 0} → List (Vec ℕ A × List ℕ) → Texts
texts_of entries = map (λ e. (e.0.items, e.1)) entries

-- the keys of each table rise
pub record AllRise (t : Tables) : Type 0 where
  pub analysis : Rise t.analysis
  pub databases : Rise t.databases
  pub sources : Rise t.sources
  pub measurements : Rise t.measurements
