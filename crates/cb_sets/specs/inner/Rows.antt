-- Rows as they are kept.
use Rattle.std.specs.Prelude.{◌≡◌, ℕ, ◌+◌, ◌≤◌, List, [], ◌∷◌, map}
use Rattle.cb_sets.specs.declared.row.Row.{Row}
use Rattle.cb_sets.specs.Sets.{members}
use Rattle.cb_sets.specs.declared.platform_set.PlatformSet.{PlatformSet}
use Rattle.cb_sets.specs.Tallies.{SetLines, with_count, with_counted}
use Rattle.cb_sets.specs.inner.Ranks.{rank_of}

-- a row as contracts see it (own)
abbrev pub seen : Row → SetLines
seen row = record { members = members row.set; lines = row.lines }

-- rows whose ranks rise, none below a bound (own)
abbrev pub Rise : ℕ → List Row → Type 0
Rise low [] = Unit {0}
Rise low (r ∷ rs) = (low ≤ rank_of r.set) × Rise (rank_of r.set + 1) rs

-- the rows that adding lines of one set leaves (own)
pub record IsWithCount (set : PlatformSet) (lines : ℕ) (old new : List Row) : Type 0 where
  pub rising : Rise 0 new
  pub rows : map seen new ≡ with_count (members set) lines (map seen old)

-- the rows that adding lines leaves, each for the set of the platforms that use it (own)
pub record IsWith (used : List (List ℕ)) (lines : List ℕ) (old new : List Row) : Type 0 where
  pub rising : Rise 0 new
  pub rows : map seen new ≡ with_counted used lines (map seen old)
